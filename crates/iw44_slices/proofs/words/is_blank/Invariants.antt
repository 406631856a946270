use Rattle.std.proofs.Common.{◌≡◌, ℕ, ◌+◌, ◌*◌, ◌<◌, true}
use Rattle.iw44_blocks.specs.Plane.{coefficient}
use Rattle.iw44_blocks.specs.Words.{is_zero}
use Rattle.iw44_slices.proofs.words.is_blank.Given as goal

-- those of the buckets before are 0
abbrev pub invariant-loop-bucket : goal.invariant-loop-bucket
invariant-loop-bucket l = (k : ℕ) → k < 16 * l.bucket → is_zero (coefficient l.coefficients l.block (16 * l.first + k)) ≡ true
