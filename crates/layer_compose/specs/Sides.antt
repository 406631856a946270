-- The two sides of a mask: the pixels that it has, which stand in front, and all others.
use Rattle.std.specs.Prelude.{ℕ, ◌+◌, Bool, not, map, sum, count_by, Option, Some, None, if◌then◌else◌}
use Rattle.std.specs.List.{range_with_len}
use Rattle.djvu_base.specs.Picture.{Picture}
use Rattle.bit_plane.specs.Pixels.{Pixels}
use Rattle.layer_compose.specs.declared.sums.Side.{Side}
use Rattle.layer_compose.specs.declared.sums.Side.TheVariants.{Front, Back}
use Rattle.layer_compose.specs.Drawing.{in_mask, layer_sample}

-- whether a pixel is on a side
abbrev pub is_on : Side → Bool → Bool
is_on Front masked = masked
is_on Back masked = not masked

-- the plain shade that a side has where there is no layer for it
abbrev pub shade_of : Side → ℕ
shade_of Front = 0
shade_of Back = 255

-- how many pixels of a row are on a side, of so many from one on
abbrev pub count_on : Side → Option Pixels → ℕ → ℕ → ℕ → ℕ
count_on side mask x y count = count_by (λ i. is_on side (in_mask mask (x + i) y)) (range_with_len 0 count)

-- the sum of a layer's three samples at a place of its page
abbrev pub layer_sum : Option Picture → ℕ → ℕ → ℕ → ℕ → ℕ
layer_sum layer plain by x y = layer_sample layer plain by x y 0 + layer_sample layer plain by x y 1 + layer_sample layer plain by x y 2

-- the sum of a side's layer at the pixels of a row that are on that side
abbrev pub sum_on : Side → Option Pixels → Option Picture → ℕ → ℕ → ℕ → ℕ
sum_on side mask layer by width y =
    sum (map (λ x. if is_on side (in_mask mask x y) then layer_sum layer (shade_of side) by x y else 0) (range_with_len 0 width))

-- how many pixels side by side have the same sample of a layer; without one 64 at a time are as good as any
abbrev pub run_of : Option Picture → ℕ → ℕ
run_of None by = 64
run_of (Some picture) by = by
