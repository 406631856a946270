use Rattle.std.proofs.Common.{ap, sym, ◌∙◌, subst, Some, []}
use Rattle.iw44_image.specs.Image.{Image, Holds}
use Rattle.iw44_image.proofs.Giving.{header_moves}
use Rattle.iw44_image.proofs.image.IwImage.chunk_begin.Goals as goal

pub returns-clause-holds : goal.returns-clause-holds
unfolding Holds
returns-clause-holds c = λ layer decisions holds.
    let closed = ap (λ (i : Image). i.to_come) c.self.view_is ∙ c.requires in
    let here = subst (λ (i : Image). Holds layer [] decisions i) (sym c.self.view_is) holds in
    header_moves _ (Some c.args.length) layer [] decisions c.self.inside.readers c.self.inside.decoder c.self.inside.unread c.self.inside.at
    (c.self.invariant.closed closed) here
