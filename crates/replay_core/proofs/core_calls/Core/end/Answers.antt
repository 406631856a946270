use Rattle.std.proofs.Common.{◌≡◌, ◌<◌, true, Option, Some, None, length, sym, ap, ◌∙◌, subst, arith}
use Rattle.std.specs.Prelude.{slice_get, is_some}
use Rattle.std.specs.Arc.{arc_value}
use Rattle.djvu_base.specs.Library.{File, Library}
use Rattle.zp_table.specs.Rows.{IsTable}
use Rattle.replay_core.specs.Counts.{PageCount}
use Rattle.replay_core.specs.CoreFiles.{FilePart}
use Rattle.replay_core.specs.CorePages.{PageSeen, PageStands}
use Rattle.replay_core.specs.Core.{CoreParts, CoreSeen, Stands, StandsSo, core_of, results_by}
use Rattle.replay_core.specs.Machine.{PageState, ended}
use Rattle.replay_core.proofs.Listing.{some_same, changed_here}
use Rattle.replay_core.proofs.Moving.{ended_on}
use Rattle.replay_core.proofs.Standing.{CoreLaws, core_laws}
use Rattle.replay_core.proofs.Receiving.{core_file, core_both, on, alone, with_page, file_there, none_of}
use Rattle.replay_core.proofs.Receiving.{page_within, page_at, its_file, takes_bytes, open_there, ended_before, same_seen}
use Rattle.replay_core.proofs.core_calls.Core.end.Goals as goal

pub returns-then-is_some-clause-stands : goal.returns-then-is_some-clause-stands
unfolding Stands
returns-then-is_some-clause-stands c state counts stands =
    let parts : CoreParts = record { files = c.self.inside.files.items; pages = c.self.inside.pages.items; results = c.self.inside.results.items } in
    let names = arc_value c.self.inside.names in
    let less : c.args.file < length names = subst (λ (s : CoreSeen). c.args.file < length s.names) (sym c.self.view_is) c.requires in
    let first = c.index.result.now in
    let is_first = file_there names parts c.self.invariant c.args.file first less c.index.ensures in
    let table = arc_value c.self.inside.table in
    let here : StandsSo state counts (core_of table names parts) = subst (StandsSo state counts) (sym c.self.view_is) stands in
    let over : is_some first.end ≡ true = ap is_some (sym c.end.ensures) ∙ sym c.is_some.ensures ∙ c.if-is_some.true in
    subst (λ (library : Library). StandsSo (record state { library = library }) counts c.args.self.now)
    (sym (ended_before state counts table names parts here c.args.file first is_first over c.args.how)) stands

pub index_mut-requires : goal.index_mut-requires
index_mut-requires c =
    let parts : CoreParts = record { files = c.self.inside.files.items; pages = c.self.inside.pages.items; results = c.self.inside.results.items } in
    let names = arc_value c.self.inside.names in
    let less : c.args.file < length names = subst (λ (s : CoreSeen). c.args.file < length s.names) (sym c.self.view_is) c.requires in
    let was = c.index_mut-its.result.now in
    let is_was = file_there names parts c.self.invariant c.args.file was less c.index_mut-its.ensures.value in
    let at : was.page ≡ Some c.in-Some.page = sym c.close.ensures.page ∙ sym c.page.ensures ∙ c.in-Some.is in
    let within = page_within names parts c.self.invariant c.args.file was is_was c.in-Some.page at in
    let same = c.self.inside.pages.ok.0 in
    omega (arith, within, same)

pub close-requires-in-Some : goal.close-requires-in-Some
close-requires-in-Some c =
    let parts : CoreParts = record { files = c.self.inside.files.items; pages = c.self.inside.pages.items; results = c.self.inside.results.items } in
    let names = arc_value c.self.inside.names in
    let less : c.args.file < length names = subst (λ (s : CoreSeen). c.args.file < length s.names) (sym c.self.view_is) c.requires in
    let first = c.index.result.now in
    let is_first = file_there names parts c.self.invariant c.args.file first less c.index.ensures in
    let was = c.index_mut-its.result.now in
    let is_was = file_there names parts c.self.invariant c.args.file was less c.index_mut-its.ensures.value in
    let none : was.end ≡ None =
    ap (λ (f : FilePart). f.end) (some_same was c.index.result.now (sym is_was ∙ is_first))
    ∙ none_of c.index.result.now.end (ap is_some (sym c.end.ensures) ∙ sym c.is_some.ensures ∙ c.if-is_some.false) in
    let at : was.page ≡ Some c.in-Some.page = sym c.close.ensures.page ∙ sym c.page.ensures ∙ c.in-Some.is in
    let old = c.index_mut.result.now in
    let is_old = page_at names parts c.self.invariant c.args.file was is_was c.in-Some.page at old c.index_mut.ensures.value in
    takes_bytes names parts c.self.invariant c.args.file was is_was c.in-Some.page at old is_old none

pub invariant_of-self : goal.invariant_of-self
invariant_of-self c =
    let parts : CoreParts = record { files = c.self.inside.files.items; pages = c.self.inside.pages.items; results = c.self.inside.results.items } in
    let names = arc_value c.self.inside.names in
    let less : c.args.file < length names = subst (λ (s : CoreSeen). c.args.file < length s.names) (sym c.self.view_is) c.requires in
    let was = c.index_mut-its.result.now in
    let is_was = file_there names parts c.self.invariant c.args.file was less c.index_mut-its.ensures.value in
    let at : was.page ≡ Some c.in-Some.page = sym c.close.ensures.page ∙ sym c.page.ensures ∙ c.in-Some.is in
    let old = c.index_mut.result.now in
    let is_old = page_at names parts c.self.invariant c.args.file was is_was c.in-Some.page at old c.index_mut.ensures.value in
    core_both names parts c.self.invariant c.args.file was c.close.new.self is_was c.close.ensures.page
    (λ e. absurd (let wrong : Some c.args.how ≡ None = sym c.close.ensures.end ∙ e in cc))
    c.in-Some.page at old c.close-in-Some.new.self is_old
    (ap (λ (p : PageSeen). p.file) c.close-in-Some.ensures.seen) (λ e. absurd (let wrong : Some c.args.how ≡ None = sym c.close.ensures.end ∙ e in cc))

pub invariant_of-self-in_default : goal.invariant_of-self-in_default
invariant_of-self-in_default c =
    let parts : CoreParts = record { files = c.self.inside.files.items; pages = c.self.inside.pages.items; results = c.self.inside.results.items } in
    let names = arc_value c.self.inside.names in
    let less : c.args.file < length names = subst (λ (s : CoreSeen). c.args.file < length s.names) (sym c.self.view_is) c.requires in
    let was = c.index_mut-its.result.now in
    let is_was = file_there names parts c.self.invariant c.args.file was less c.index_mut-its.ensures.value in
    core_file names parts c.self.invariant c.args.file was c.close.new.self is_was c.close.ensures.page
    (λ e. absurd (let wrong : Some c.args.how ≡ None = sym c.close.ensures.end ∙ e in cc))

pub returns-in-Some-clause-stands : goal.returns-in-Some-clause-stands
unfolding Stands
returns-in-Some-clause-stands c state counts stands =
    let parts : CoreParts = record { files = c.self.inside.files.items; pages = c.self.inside.pages.items; results = c.self.inside.results.items } in
    let names = arc_value c.self.inside.names in
    let less : c.args.file < length names = subst (λ (s : CoreSeen). c.args.file < length s.names) (sym c.self.view_is) c.requires in
    let first = c.index.result.now in
    let is_first = file_there names parts c.self.invariant c.args.file first less c.index.ensures in
    let was = c.index_mut-its.result.now in
    let is_was = file_there names parts c.self.invariant c.args.file was less c.index_mut-its.ensures.value in
    let none : was.end ≡ None =
    ap (λ (f : FilePart). f.end) (some_same was c.index.result.now (sym is_was ∙ is_first))
    ∙ none_of c.index.result.now.end (ap is_some (sym c.end.ensures) ∙ sym c.is_some.ensures ∙ c.if-is_some.false) in
    let at : was.page ≡ Some c.in-Some.page = sym c.close.ensures.page ∙ sym c.page.ensures ∙ c.in-Some.is in
    let old = c.index_mut.result.now in
    let is_old = page_at names parts c.self.invariant c.args.file was is_was c.in-Some.page at old c.index_mut.ensures.value in
    let table = arc_value c.self.inside.table in
    let here : StandsSo state counts (core_of table names parts) = subst (StandsSo state counts) (sym c.self.view_is) stands in
    let is_table : IsTable table = here.is_table in
    let laws : CoreLaws table = core_laws c.growth.ensures.notices c.libraries_go_on.ensures.given c.libraries_go_on.ensures.files
    c.libraries_go_on.ensures.told c.libraries_go_on.ensures.over c.lists.ensures.order c.included_files.ensures.stays c.made_stays.ensures
    c.libraries_go_on.ensures.results c.results_are_the_librarys.ensures.made c.counts_stay_within.ensures table is_table in
    let goes = λ (file : File) (gave : Option _). c.close.ensures.stands file gave in
    let there = open_there state counts table names parts here c.args.file was less is_was none in
    let goes_on = λ (page : PageState) (count : PageCount) (before : PageStands table state.library (results_by parts.results) page count old).
    let place : c.args.file ≡ page.file =
    sym (its_file names parts c.self.invariant c.args.file was is_was c.in-Some.page at old is_old) ∙ before.file in
    c.close-in-Some.ensures.stands table state.library _ (results_by parts.results) page count there.file is_table
    (on c.libraries_go_on.ensures.same state counts table names parts c.self.invariant here laws (ended c.args.how)
    (ended_on c.args.how) c.args.file was
    c.close.new.self is_was goes)
    (ap (slice_get state.library) (sym place) ∙ there.is_file) there.open_
    (ap (slice_get _) (sym place) ∙ changed_here (ended c.args.how) state.library c.args.file there.file there.is_file) before in
    with_page c.libraries_go_on.ensures.same state counts table names parts c.self.invariant here laws (ended c.args.how)
    (ended_on c.args.how) c.args.file was
    c.close.new.self is_was goes c.in-Some.page at old c.close-in-Some.new.self is_old goes_on

pub returns-in_default-clause-stands : goal.returns-in_default-clause-stands
unfolding Stands
returns-in_default-clause-stands c state counts stands =
    let parts : CoreParts = record { files = c.self.inside.files.items; pages = c.self.inside.pages.items; results = c.self.inside.results.items } in
    let names = arc_value c.self.inside.names in
    let less : c.args.file < length names = subst (λ (s : CoreSeen). c.args.file < length s.names) (sym c.self.view_is) c.requires in
    let was = c.index_mut-its.result.now in
    let is_was = file_there names parts c.self.invariant c.args.file was less c.index_mut-its.ensures.value in
    let table = arc_value c.self.inside.table in
    let here : StandsSo state counts (core_of table names parts) = subst (StandsSo state counts) (sym c.self.view_is) stands in
    let is_table : IsTable table = here.is_table in
    let laws : CoreLaws table = core_laws c.growth.ensures.notices c.libraries_go_on.ensures.given c.libraries_go_on.ensures.files
    c.libraries_go_on.ensures.told c.libraries_go_on.ensures.over c.lists.ensures.order c.included_files.ensures.stays c.made_stays.ensures
    c.libraries_go_on.ensures.results c.results_are_the_librarys.ensures.made c.counts_stay_within.ensures table is_table in
    let none : was.page ≡ None = sym c.close.ensures.page ∙ sym c.page.ensures ∙ c.in_default.is in
    alone c.libraries_go_on.ensures.same state counts table names parts c.self.invariant here laws (ended c.args.how)
    (ended_on c.args.how) c.args.file was
    c.close.new.self is_was (λ file gave. c.close.ensures.stands file gave) none

pub returns-in-Some-clause-pages : goal.returns-in-Some-clause-pages
returns-in-Some-clause-pages c =
    let parts : CoreParts = record { files = c.self.inside.files.items; pages = c.self.inside.pages.items; results = c.self.inside.results.items } in
    let names = arc_value c.self.inside.names in
    let less : c.args.file < length names = subst (λ (s : CoreSeen). c.args.file < length s.names) (sym c.self.view_is) c.requires in
    let was = c.index_mut-its.result.now in
    let is_was = file_there names parts c.self.invariant c.args.file was less c.index_mut-its.ensures.value in
    let at : was.page ≡ Some c.in-Some.page = sym c.close.ensures.page ∙ sym c.page.ensures ∙ c.in-Some.is in
    let old = c.index_mut.result.now in
    let is_old = page_at names parts c.self.invariant c.args.file was is_was c.in-Some.page at old c.index_mut.ensures.value in
    same_seen parts.pages c.in-Some.page old c.close-in-Some.new.self is_old c.close-in-Some.ensures.seen ∙ ap (λ (s : CoreSeen). s.pages) c.self.view_is
