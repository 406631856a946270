use Rattle.std.proofs.Common.{◌≡◌, ◌+◌, min, arith}
use Rattle.iw44_slices.proofs.Standing.{next_begins, next_stays}
use Rattle.iw44_slices.proofs.spots.Spot.next_slice.Goals as goal

pub returns-then-self-lt200 : goal.returns-then-self-lt200
returns-then-self-lt200 c slice course plane left =
    let more : c.args.self.now.number + 1 ≡ min (c.args.self.now.number + 1) 200 = omega (arith, c.if-self-lt200.true) in
    next_begins slice course plane c.args.self.now (c.args.self.now.number + 1) c.requires more left

pub returns-else-self-lt200 : goal.returns-else-self-lt200
returns-else-self-lt200 c slice course plane left = next_stays slice course plane c.args.self.now c.requires c.if-self-lt200.false left
