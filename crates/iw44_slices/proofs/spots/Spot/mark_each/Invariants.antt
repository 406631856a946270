use Rattle.std.proofs.Common.{◌≡◌, ℕ, ◌+◌, ◌*◌, ◌<◌, get_or}
use Rattle.iw44_slices.specs.Slice.{is_active, is_unknown, some_from}
use Rattle.iw44_blocks.specs.Words.{AreBits}
use Rattle.iw44_slices.specs.Reader.{place_at, first_at}
use Rattle.iw44_slices.proofs.spots.Spot.mark_each.Given as goal

abbrev pub invariant-loop-bucket : goal.invariant-loop-bucket
invariant-loop-bucket l = record {
  number : l.self.number ≡ l.fn.self.number;
  block : l.self.block ≡ l.fn.self.block;
  active : (k : ℕ) → k < l.bucket →
      AreBits (is_active (place_at l.self.number l.self.block l.coefficients)) 16 (16 * (first_at (place_at l.self.number l.self.block l.coefficients) + k))
      (get_or l.self.active k 0);
  unknown : (k : ℕ) → k < l.bucket →
      AreBits (is_unknown (place_at l.self.number l.self.block l.coefficients)) 16
      (16 * (first_at (place_at l.self.number l.self.block l.coefficients) + k)) (get_or l.self.unknown k 0);
  some : l.self.is_active ≡ some_from (is_active (place_at l.self.number l.self.block l.coefficients)) (16 * l.bucket)
      (16 * first_at (place_at l.self.number l.self.block l.coefficients));
}
