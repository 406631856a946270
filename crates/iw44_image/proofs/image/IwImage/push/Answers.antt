use Rattle.std.proofs.Common.{◌≤◌, ◌-◌, ℕ, List, ◌++◌, length, Option, Some, sym, subst}
use Rattle.iw44_image.specs.contracts.image.IwImage.{the_view}
use Rattle.iw44_image.specs.Image.{Image, Holds, HoldsAt, frame_of}
use Rattle.iw44_image.specs.Keeping.{HasRoom}
use Rattle.iw44_image.proofs.Giving.{frame_with}
use Rattle.iw44_image.proofs.Pushing.{more_held}
use Rattle.iw44_image.proofs.image.IwImage.push.Goals as goal

pub returns-in-Some-clause-holds : goal.returns-in-Some-clause-holds
unfolding Holds
returns-in-Some-clause-holds c = λ layer bytes decisions holds.
    let im : Image = the_view c.self.inside in
    let n : ℕ = c.in-Some.left in
    let room : length c.args.piece.now ≤ n = subst (λ (o : Option ℕ). HasRoom (length c.args.piece.now) o) c.in-Some.is
    (subst (λ (i : Image). HasRoom (length c.args.piece.now) i.to_come) (sym c.self.view_is) c.requires) in
    let before = subst (λ (i : Image). Holds layer bytes decisions i) (sym c.self.view_is) holds in
    let there = more_held im.stage (frame_of im) n layer bytes c.args.piece.now im.left decisions im.planes im.zp c.in-Some.is room before in
    subst (λ (l : List ℕ). HoldsAt im.stage (frame_with (frame_of im) (Some (n - length c.args.piece.now))) layer (bytes ++ c.args.piece.now)
    decisions im.planes im.zp l)
    (sym c.in_ok-keep.ensures.ok) there
