-- The ink box of a plane: the least and greatest columns and rows that have a black pixel.
use Rattle.std.specs.Prelude.{◌≡◌, ℕ, zero, suc, Bool, true, false, ◌||◌, ℤ, pos, negsuc, ◌+ℤ◌, ◌-ℤ◌, ◌≤ℤ◌, ◌<ℤ◌, if◌then◌else◌}
use Rattle.bit_plane.specs.declared.ink.InkBox.{InkBox}
use Rattle.bit_plane.specs.Pixels.{Pixels, is_black, is_black_at}

-- whether a number below n passes
abbrev pub any_below : (ℕ → Bool) → ℕ → Bool
any_below test zero = false
any_below test (suc n) = any_below test n || test n

-- the least number below n that passes, where one does
abbrev pub least_below : (ℕ → Bool) → ℕ → ℕ
least_below test zero = 0
least_below test (suc n) = if any_below test n then least_below test n else n

-- the greatest number below n that passes, where one does
abbrev pub greatest_below : (ℕ → Bool) → ℕ → ℕ
greatest_below test zero = 0
greatest_below test (suc n) = if test n then n else greatest_below test n

-- whether a column has a black pixel
abbrev pub has_ink_column : Pixels → ℕ → Bool
has_ink_column plane x = any_below (λ y. is_black_at plane x y) plane.height

-- whether a row has one
abbrev pub has_ink_row : Pixels → ℕ → Bool
has_ink_row plane y = any_below (λ x. is_black_at plane x y) plane.width

-- the box of a plane without a black pixel
abbrev pub no_ink : InkBox
no_ink = record { left = pos 0; right = negsuc 0; bottom = pos 0; top = negsuc 0 }

abbrev pub ink_box_of : Pixels → InkBox
ink_box_of plane =
    if any_below (has_ink_column plane) plane.width
    then record {
      left = pos (least_below (has_ink_column plane) plane.width);
      right = pos (greatest_below (has_ink_column plane) plane.width);
      bottom = pos (least_below (has_ink_row plane) plane.height);
      top = pos (greatest_below (has_ink_row plane) plane.height);
    }
    else no_ink

-- a number that isn't negative, without its sign
abbrev pub unsigned : ℤ → ℕ
unsigned (pos n) = n
unsigned (negsuc n) = 0

-- how many columns or rows there are from the least to the greatest one
abbrev pub extent : ℤ → ℤ → ℕ
extent low high = unsigned (high -ℤ low +ℤ pos 1)

-- a column with a black pixel
abbrev pub InkColumn : Pixels → ℤ → Type 0
InkColumn plane x = (y : ℤ) × (is_black plane x y ≡ true)

-- a row with a black pixel
abbrev pub InkRow : Pixels → ℤ → Type 0
InkRow plane y = (x : ℤ) × (is_black plane x y ≡ true)

-- no black pixel lies outside of the box, and where there is one, one lies at each of the box's sides
pub record IsInkBox (plane : Pixels) (box : InkBox) : Type 0 where
  pub within : (x y : ℤ) → is_black plane x y ≡ true → (box.left ≤ℤ x) × (x ≤ℤ box.right) × (box.bottom ≤ℤ y) × (y ≤ℤ box.top)
  pub left : (x y : ℤ) → is_black plane x y ≡ true → InkColumn plane box.left
  pub right : (x y : ℤ) → is_black plane x y ≡ true → InkColumn plane box.right
  pub bottom : (x y : ℤ) → is_black plane x y ≡ true → InkRow plane box.bottom
  pub top : (x y : ℤ) → is_black plane x y ≡ true → InkRow plane box.top

-- a box lies within the plane, and its width and height are at least 0
pub record IsWithin (plane : Pixels) (box : InkBox) : Type 0 where
  pub left : pos 0 ≤ℤ box.left
  pub right : box.right <ℤ pos plane.width
  pub width : box.left ≤ℤ (box.right +ℤ pos 1)
  pub bottom : pos 0 ≤ℤ box.bottom
  pub top : box.top <ℤ pos plane.height
  pub height : box.bottom ≤ℤ (box.top +ℤ pos 1)
