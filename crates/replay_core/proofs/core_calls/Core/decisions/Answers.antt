use Rattle.std.proofs.Common.{◌<◌, length, sym, ap, ◌∙◌, subst}
use Rattle.std.specs.Arc.{arc_value}
use Rattle.djvu_base.specs.Meter.{ticked}
use Rattle.replay_core.specs.Counts.{PageCount}
use Rattle.replay_core.specs.CorePages.{PagePart}
use Rattle.replay_core.specs.Core.{CoreParts, CoreSeen, Stands, StandsSo, core_of}
use Rattle.replay_core.proofs.Listing.{some_same}
use Rattle.replay_core.proofs.Receiving.{part_there}
use Rattle.replay_core.proofs.core_calls.Core.decisions.Goals as goal

pub returns : goal.returns
unfolding Stands
returns c state counts it stands is =
    let parts : CoreParts = record { files = c.self.inside.files.items; pages = c.self.inside.pages.items; results = c.self.inside.results.items } in
    let here : StandsSo state counts (core_of (arc_value c.self.inside.table) (arc_value c.self.inside.names) parts) =
    subst (StandsSo state counts) (sym c.self.view_is) stands in
    let there = part_there parts.pages c.args.page c.index.result.now
    (subst (λ (s : CoreSeen). c.args.page < length s.pages) (sym c.self.view_is) c.requires) c.index.ensures in
    let at = here.pages c.args.page c.index.result.now there in
    ap (λ (p : PagePart). p.decisions) c.behind-self.view_is ∙ at.stands.decisions
    ∙ ap (λ (count : PageCount). ticked count.decisions 0) (some_same at.count it (sym at.is_count ∙ is))
