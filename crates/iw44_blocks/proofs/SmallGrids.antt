-- A grid is as small as its coefficients.
use Rattle.std.proofs.Common.{◌≡◌, ℕ, ◌+◌, ◌*◌, ◌/◌, ◌%◌, ◌<◌, ◌≤◌, ℤ, subst, sym, arith}
use Rattle.std.specs.Prelude.{unsigned_abs}
use Rattle.std.proofs.lemmas.Nat.{mul-add-lt}
use Rattle.iw44_blocks.specs.Place.{index_at}
use Rattle.iw44_blocks.specs.Lattice.{IsWithin}
use Rattle.iw44_blocks.specs.Plane.{Plane, IsSmall, blocks_along, block_at, block_count, coefficient_at, grid_of}
use Rattle.iw44_blocks.proofs.BlockPlaces.{inside}
use Rattle.iw44_blocks.proofs.GridValues.{value_given}

pub small_grid : (limit : ℕ) (plane : Plane) → IsSmall limit plane → IsWithin limit (grid_of plane)
small_grid limit plane small x y h k =
    let block : y / 32 * blocks_along plane.width + x / 32 < blocks_along plane.width * blocks_along plane.height =
    mul-add-lt (y / 32) (blocks_along plane.width) (x / 32) (blocks_along plane.height) (inside plane.height y k) (inside plane.width x h) in
    let turned : block_at plane.width x y ≡ y / 32 * blocks_along plane.width + x / 32 = grind arith in
    let below : index_at (x % 32) (y % 32) < 1024 = omega arith in
    subst (λ (z : ℤ). unsigned_abs z ≤ limit) (sym (value_given plane.width plane.height x y (coefficient_at plane) h k))
    (small (block_at plane.width x y) (index_at (x % 32) (y % 32)) (subst (λ (n : ℕ). n < block_count plane) (sym turned) block) below)
