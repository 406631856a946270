use Rattle.std.proofs.Common.{◌≡◌, map, Some, true, refl, sym, ap, ◌∙◌, subst}
use Rattle.std.specs.Prelude.{slice_get, slice_set, option_map}
use Rattle.std.specs.Arc.{arc_value}
use Rattle.std.proofs.lemmas.Option.{slice_get-map, slice_get_within}
use Rattle.replay_core.specs.CorePages.{PagePart, PageSeen, seen_of, PageStands}
use Rattle.replay_core.specs.Core.{CoreParts, CoreSeen, Stands, StandsSo, Takes, core_of, results_by}
use Rattle.replay_core.specs.Machine.{layers_drawn}
use Rattle.replay_core.proofs.Listing.{some_same, set_apart, set_here}
use Rattle.replay_core.proofs.Placing.{core_put, placed_same, seen_put, same_put}
use Rattle.replay_core.proofs.Taking.{took_stands, took_layers, page_there}
use Rattle.replay_core.proofs.Together.{IsDone}
use Rattle.replay_core.proofs.core_calls.Core.take.Goals as goal

pub invariant_of-self : goal.invariant_of-self
invariant_of-self c =
    let parts : CoreParts = record { files = c.self.inside.files.items; pages = c.self.inside.pages.items; results = c.self.inside.results.items } in
    let there = page_there parts.pages c.args.page c.index_mut.result.now c.args.self.now.pages (ap (λ (s : CoreSeen). s.pages) c.self.view_is)
    (c.requires.page) c.requires.is c.index_mut.ensures.value in
    core_put (arc_value c.self.inside.names) parts c.self.invariant c.args.page c.index_mut.result.now c.take.new.self there
    (ap (λ (p : PagePart). p.file) c.take.ensures.part) (ap (λ (p : PagePart). p.closed) c.take.ensures.part)

pub returns-clause-layers : goal.returns-clause-layers
unfolding Stands
returns-clause-layers c state counts it stands is =
    let parts : CoreParts = record { files = c.self.inside.files.items; pages = c.self.inside.pages.items; results = c.self.inside.results.items } in
    let table = arc_value c.self.inside.table in
    let names = arc_value c.self.inside.names in
    let old = c.index_mut.result.now in
    let there = page_there parts.pages c.args.page old c.args.self.now.pages (ap (λ (s : CoreSeen). s.pages) c.self.view_is)
    (c.requires.page) c.requires.is c.index_mut.ensures.value in
    let here : StandsSo state counts (core_of table names parts) = subst (StandsSo state counts) (sym c.self.view_is) stands in
    let at = here.pages c.args.page old there in
    let page_is : at.page ≡ it = some_same at.page it (sym at.is_page ∙ is) in
    let seen : seen_of old ≡ c.requires.page = some_same (seen_of old) c.requires.page
    (ap (option_map seen_of) (sym there) ∙ sym (slice_get-map seen_of parts.pages c.args.page)
    ∙ ap (λ (s : CoreSeen). slice_get s.pages c.args.page) c.self.view_is ∙ c.requires.is) in
    c.take.ensures.layers
    ∙ took_layers table state.library _ at.page at.count old at.stands
    (subst (λ (p : PageSeen). IsDone p.end) (sym seen) c.requires.over) (ap (λ (p : PageSeen). p.taken) seen ∙ c.requires.there)
    ∙ ap (layers_drawn table state.library) page_is ∙ ap (λ (s : CoreSeen). layers_drawn s.table state.library it) c.self.view_is

pub returns-clause-stands : goal.returns-clause-stands
unfolding Stands
returns-clause-stands c state counts stands =
    let parts : CoreParts = record { files = c.self.inside.files.items; pages = c.self.inside.pages.items; results = c.self.inside.results.items } in
    let table = arc_value c.self.inside.table in
    let names = arc_value c.self.inside.names in
    let old = c.index_mut.result.now in
    let there = page_there parts.pages c.args.page old c.args.self.now.pages (ap (λ (s : CoreSeen). s.pages) c.self.view_is)
    (c.requires.page) c.requires.is c.index_mut.ensures.value in
    let here : StandsSo state counts (core_of table names parts) = subst (StandsSo state counts) (sym c.self.view_is) stands in
    let at = here.pages c.args.page old there in
    let took = took_stands table state.library (results_by parts.results) at.page at.count old at.stands in
    placed_same state counts table names parts here c.args.page old there c.take.new.self
    (subst (PageStands table state.library (results_by parts.results) at.page at.count) (sym c.take.ensures.part) took)

pub returns-clause-takes : goal.returns-clause-takes
returns-clause-takes c =
    let parts : CoreParts = record { files = c.self.inside.files.items; pages = c.self.inside.pages.items; results = c.self.inside.results.items } in
    let table = arc_value c.self.inside.table in
    let names = arc_value c.self.inside.names in
    let old = c.index_mut.result.now in
    let new = c.take.new.self in
    let seen = map seen_of parts.pages in
    let there = page_there parts.pages c.args.page old c.args.self.now.pages (ap (λ (s : CoreSeen). s.pages) c.self.view_is)
    (c.requires.page) c.requires.is c.index_mut.ensures.value in
    let found : slice_get seen c.args.page ≡ Some (seen_of old) = slice_get-map seen_of parts.pages c.args.page ∙ ap (option_map seen_of) there in
    subst (λ before. Takes c.args.page before (core_of table names (record parts { pages = slice_set parts.pages c.args.page new }))) c.self.view_is (record {
      same = same_put table names parts (record parts { pages = slice_set parts.pages c.args.page new }) c.args.page new refl;
      others = λ other apart. ap (λ l. slice_get l other) (seen_put parts.pages c.args.page new) ∙ set_apart seen c.args.page other (seen_of new) apart;
      is = λ it e. ap (λ l. slice_get l c.args.page) (seen_put parts.pages c.args.page new)
          ∙ set_here seen c.args.page (seen_of new) (slice_get_within seen c.args.page (seen_of old) found)
          ∙ ap (λ p. Some (seen_of p)) c.take.ensures.part
          ∙ ap (λ (p : PageSeen). Some (record p { taken = true })) (some_same (seen_of old) it (sym found ∙ e));
    })
