-- Planes of pixels: a width, a height, and which pixels are black. Places count from 0 at the bottom left.
use Rattle.std.specs.Prelude.{◌≡◌, ℕ, ◌+◌, ◌*◌, ◌/◌, ◌%◌, ◌==◌, nat_lt, Bool, false, ◌&&◌, ◌||◌, List, length, map, count_by, slice_index_or, ℤ, pos, negsuc, ◌-ℤ◌}
use Rattle.std.specs.List.{range_with_len}

pub record Pixels : Type 0 where
  pub width : ℕ
  pub height : ℕ
  -- whether each pixel is black, row after row from the bottom, each row from the left
  pub black : List Bool

-- the largest area of a plane, in pixels
abbrev pub area_limit : ℕ
area_limit = 67_108_864

-- the longest side that a format gives a mask or a shape, in pixels
abbrev pub side_limit : ℕ
side_limit = 65_535

-- whether a place is one of the plane's
abbrev pub is_inside : Pixels → ℤ → ℤ → Bool
is_inside plane (pos x) (pos y) = nat_lt x plane.width && nat_lt y plane.height
is_inside plane (pos x) (negsuc y) = false
is_inside plane (negsuc x) y = false

abbrev pub is_black_at : Pixels → ℕ → ℕ → Bool
is_black_at plane x y =
    (nat_lt x plane.width && nat_lt y plane.height) && slice_index_or plane.black (y * plane.width + x) false

-- whether a place is black: what lies outside is white
abbrev pub is_black : Pixels → ℤ → ℤ → Bool
is_black plane (pos x) (pos y) = is_black_at plane x y
is_black plane (pos x) (negsuc y) = false
is_black plane (negsuc x) y = false

-- a plane has a pixel for each place
abbrev pub IsPlane : Pixels → Type 0
IsPlane plane = length plane.black ≡ plane.width * plane.height

-- how many pixels are black
abbrev pub black_count : Pixels → ℕ
black_count plane = count_by (λ black. black) plane.black

-- whether a place is (x, y)
abbrev pub is_place : ℤ → ℤ → ℕ → ℕ → Bool
is_place (pos a) (pos b) x y = a == x && b == y
is_place (pos a) (negsuc b) x y = false
is_place (negsuc a) b x y = false

-- the plane of a size whose pixel (x, y) is black where the test says so
abbrev pub pixels_where : ℕ → ℕ → (ℕ → ℕ → Bool) → Pixels
pixels_where width height test = record {
  width = width;
  height = height;
  black = map (λ i. test (i % width) (i / width)) (range_with_len 0 (width * height));
}

-- a plane without a black pixel
abbrev pub blank : ℕ → ℕ → Pixels
blank width height = pixels_where width height (λ x y. false)

-- a plane with one more black pixel
abbrev pub with_black : Pixels → ℕ → ℕ → Pixels
with_black plane x y = pixels_where plane.width plane.height (λ a b. (a == x && b == y) || is_black_at plane a b)

-- a plane with a shape painted on it, whose pixel (0, 0) comes to stand at (left, bottom): the union, clipped
abbrev pub painted : Pixels → Pixels → ℤ → ℤ → Pixels
painted plane shape left bottom =
    pixels_where plane.width plane.height (λ x y. is_black_at plane x y || is_black shape (pos x -ℤ left) (pos y -ℤ bottom))
