use Rattle.std.proofs.Common.{◌≡◌, ◌<◌, length, Some, None, sym, ap, ◌∙◌, subst}
use Rattle.std.specs.Prelude.{slice_get, slice_set}
use Rattle.std.specs.Arc.{arc_value}
use Rattle.zp_table.specs.Rows.{IsTable}
use Rattle.replay_core.specs.Core.{CoreParts, CoreSeen, core_of}
use Rattle.replay_core.specs.CoreSteps.{DecodesBy, DecodesFor}
use Rattle.replay_core.proofs.Decoding.{DecodingLaws, decodes_file, core_decoded}
use Rattle.replay_core.proofs.Lasting.{page_laws}
use Rattle.replay_core.proofs.Receiving.{core_file, file_there}
use Rattle.replay_core.proofs.core_calls.Core.decode.Goals as goal

pub invariant_of-self : goal.invariant_of-self
invariant_of-self g c =
    let parts : CoreParts = record { files = c.self.inside.files.items; pages = c.self.inside.pages.items; results = c.self.inside.results.items } in
    let names = arc_value c.self.inside.names in
    let less : c.args.file < length names = subst (λ n. c.args.file < n) c.self.invariant.results
    (subst (λ (s : CoreSeen). c.args.file < length s.inside.results) (sym c.self.view_is) c.requires.place) in
    let kept = c.index_mut-2.result.now in
    let is_kept = file_there names parts c.self.invariant c.args.file kept less c.index_mut-2.ensures.value in
    core_decoded names parts (slice_set parts.files c.args.file c.forget.new.self)
    (core_file names parts c.self.invariant c.args.file kept c.forget.new.self is_kept c.forget.ensures.page (λ e. sym c.forget.ensures.end ∙ e))
    c.args.file c.decoded-done.result.result

pub returns-clause-decodes : goal.returns-clause-decodes
returns-clause-decodes g c =
    let parts : CoreParts = record { files = c.self.inside.files.items; pages = c.self.inside.pages.items; results = c.self.inside.results.items } in
    let names = arc_value c.self.inside.names in
    let table = arc_value c.self.inside.table in
    let core = core_of table names parts in
    let less : c.args.file < length names = subst (λ n. c.args.file < n) c.self.invariant.results
    (subst (λ (s : CoreSeen). c.args.file < length s.inside.results) (sym c.self.view_is) c.requires.place) in
    let kept = c.index_mut-2.result.now in
    let is_kept = file_there names parts c.self.invariant c.args.file kept less c.index_mut-2.ensures.value in
    let gave = c.decoded-done.result.result in
    let laws : IsTable table → DecodingLaws table = λ is. record {
      making = record {
        order = c.lists.ensures.order;
        given = c.libraries_go_on.ensures.files;
        decoded = c.included_files.ensures.stays;
        made = c.made_stays.ensures;
      };
      pages = page_laws c.growth.ensures.notices c.libraries_go_on.ensures.given c.libraries_go_on.ensures.files c.libraries_go_on.ensures.told
          c.libraries_go_on.ensures.over table is;
      same = c.libraries_go_on.ensures.same;
      alone = c.included_files.ensures.alone;
      outlines = c.outlines_stay.ensures.stays;
      report = c.readers_report.ensures;
      results = c.results_are_the_librarys.ensures.made;
      need = c.needed_files_are_made.ensures;
      within = c.results_are_the_librarys.ensures.pages;
      reached = c.needs.ensures.stay_reached;
    } in
    let done : DecodesBy core c.args.file kept gave c.decoded-done.result.decisions =
    subst (λ s. DecodesBy s c.args.file kept gave c.decoded-done.result.decisions) (sym c.self.view_is)
    (c.decoded-done.ensures.decodes kept (ap (λ (s : CoreSeen). slice_get s.inside.files c.args.file) (sym c.self.view_is) ∙ is_kept)) in
    let first : slice_get parts.results c.args.file ≡ Some None =
    ap (λ (s : CoreSeen). slice_get s.inside.results c.args.file) c.self.view_is ∙ c.requires.first in
    subst (λ s. DecodesFor c.args.file s (core_of table names (record parts {
      files = slice_set parts.files c.args.file c.forget.new.self;
      results = slice_set parts.results c.args.file (Some gave);
    })) (g.M.Meter.count c.args.meter.now) (g.M.Meter.count c.decoded-done.new.meter))
    c.self.view_is
    (decodes_file table names parts c.self.invariant laws c.args.file kept c.forget.new.self is_kept first gave c.decoded-done.result.decisions
    (g.M.Meter.count c.args.meter.now) (g.M.Meter.count c.decoded-done.new.meter) done c.decoded-done.ensures.rise
    (λ it was. c.forget.ensures.stands it None (Some gave) (λ wrong. absurd (cc)) was))
