use Rattle.std.proofs.Common.{◌<◌, length, sym, ap, ◌∙◌, subst}
use Rattle.std.specs.Prelude.{slice_get}
use Rattle.replay_core.specs.CorePages.{PagePart}
use Rattle.replay_core.specs.Core.{CoreParts, CoreSeen, answer_at}
use Rattle.replay_core.proofs.Listing.{some_same}
use Rattle.replay_core.proofs.Receiving.{part_there}
use Rattle.replay_core.proofs.core_calls.Core.end_of.Goals as goal

pub returns : goal.returns
returns c part is =
    let parts : CoreParts = record { files = c.self.inside.files.items; pages = c.self.inside.pages.items; results = c.self.inside.results.items } in
    let there = part_there parts.pages c.args.page c.index.result.now
    (subst (λ (s : CoreSeen). c.args.page < length s.pages) (sym c.self.view_is) c.requires) c.index.ensures in
    c.answer.ensures
    ∙ ap answer_at (ap (λ (p : PagePart). p.end) c.behind-self.view_is
    ∙ ap (λ (p : PagePart). p.end) (some_same c.index.result.now part
    (sym there ∙ ap (λ (s : CoreSeen). slice_get s.inside.pages c.args.page) c.self.view_is ∙ is)))
