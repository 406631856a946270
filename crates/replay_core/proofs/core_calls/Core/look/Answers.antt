use Rattle.std.proofs.Common.{◌<◌, length, sym, ap, ◌∙◌, subst}
use Rattle.std.specs.Prelude.{slice_get}
use Rattle.std.specs.Arc.{arc_value}
use Rattle.replay_core.specs.Core.{CoreParts, CoreSeen, Stands, StandsSo, core_of}
use Rattle.replay_core.specs.Machine.{Looked, page_look}
use Rattle.replay_core.proofs.Receiving.{part_there, shows_where_ok}
use Rattle.replay_core.proofs.core_calls.Core.look.Goals as goal

pub returns-clause-shown : goal.returns-clause-shown
unfolding Stands
returns-clause-shown c state counts stands =
    let parts : CoreParts = record { files = c.self.inside.files.items; pages = c.self.inside.pages.items; results = c.self.inside.results.items } in
    let table = arc_value c.self.inside.table in
    let here : StandsSo state counts (core_of table (arc_value c.self.inside.names) parts) =
    subst (StandsSo state counts) (sym c.self.view_is) stands in
    let there = part_there parts.pages c.args.page c.index.result.now
    (subst (λ (s : CoreSeen). c.args.page < length s.pages) (sym c.self.view_is) c.requires) c.index.ensures in
    let at = here.pages c.args.page c.index.result.now there in
    shows_where_ok c.look.result c.index.result.now.last _ c.look.ensures
    (ap (λ (s : CoreSeen). page_look s.table state.library (slice_get state.pages c.args.page)) (sym c.self.view_is)
    ∙ ap (page_look table state.library) at.is_page ∙ ap Looked (sym at.stands.last))
