use Rattle.std.proofs.Common.{ℕ}
use Rattle.iw44_slices.specs.Slice.{Course}
use Rattle.iw44_slices.specs.Reader.{Left, LeavesSome}
use Rattle.iw44_slices.specs.Moves.{steps_left}
use Rattle.iw44_slices.proofs.spots.Spot.seek.Given as goal

abbrev pub invariant-loop-self : goal.invariant-loop-self
invariant-loop-self l = record {
  left : (slice : ℕ) (course : Course) → Left slice course l.coefficients l.fn.self → Left slice course l.coefficients l.self;
  some : LeavesSome l.coefficients l.self;
}

abbrev pub decreases-loop-self : goal.decreases-loop-self
decreases-loop-self l = steps_left l.coefficients l.self
