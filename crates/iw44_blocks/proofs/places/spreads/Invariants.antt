use Rattle.std.proofs.Common.{◌≡◌, ℕ, ◌<◌, length}
use Rattle.std.specs.Prelude.{slice_index_or}
use Rattle.iw44_blocks.specs.Place.{spread}
use Rattle.iw44_blocks.proofs.places.spreads.Given as goal

-- the table as far as it is filled
abbrev pub invariant-loop-place : goal.invariant-loop-place
invariant-loop-place l = (length l.table ≡ 32) × ((p : ℕ) → p < l.place → slice_index_or l.table p 0 ≡ spread p)
