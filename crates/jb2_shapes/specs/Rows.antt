-- Pixels at hand, as the digits of a word, and where the reading of a shape stands.
use Rattle.std.specs.Prelude.{◌≡◌, ℕ, ◌+◌, ◌-◌, ◌<◌, ◌≤◌, ◌⊎◌, nat_lt, Bool, false, [], ◌∷◌, if◌then◌else◌}
use Rattle.bit_plane.specs.Bits.{digit as bit_at}
use Rattle.bit_plane.specs.Pixels.{is_black_at}
use Rattle.bit_plane.specs.Bits.{digit_of}
use Rattle.jb2_shapes.specs.Numbers.{number_from}
use Rattle.jb2_shapes.specs.Shape.{Sketch, IsUnread, column_of, row_of}

-- the first two, three or five digits of a word as a binary number, of which the first one is the highest
abbrev pub IsFirstTwo : ℕ → ℕ → Type 0
IsFirstTwo word number = (p q : Bool) → bit_at word 0 ≡ digit_of p → bit_at word 1 ≡ digit_of q → number ≡ number_from 0 (p ∷ q ∷ [])

abbrev pub IsFirstThree : ℕ → ℕ → Type 0
IsFirstThree word number = (p q r : Bool) → bit_at word 0 ≡ digit_of p → bit_at word 1 ≡ digit_of q → bit_at word 2 ≡ digit_of r → number ≡ number_from 0 (p ∷ q ∷ r ∷ [])

abbrev pub IsFirstFive : ℕ → ℕ → Type 0
IsFirstFive word number =
    (p q r s t : Bool) → bit_at word 0 ≡ digit_of p → bit_at word 1 ≡ digit_of q → bit_at word 2 ≡ digit_of r → bit_at word 3 ≡ digit_of s → bit_at word 4 ≡ digit_of t →
    number ≡ number_from 0 (p ∷ q ∷ r ∷ s ∷ t ∷ [])

-- whether a digit of a word is 1
abbrev pub IsDigit : ℕ → ℕ → Bool → Type 0
IsDigit word at is = (colour : Bool) → bit_at word at ≡ digit_of colour → is ≡ colour

-- (x, y) comes in its turn: it lies at or right of a place in its row, or in a row below it
abbrev pub ComesYet : ℕ → ℕ → ℕ → ℕ → Type 0
ComesYet column row x y = (y < row) ⊎ ((y ≡ row) × (column ≤ x))

-- this is the place of the pixel that is read next, and what wasn't read is white
pub record IsNext (sketch : Sketch) (column row : ℕ) : Type 0 where
  pub column_is : column ≡ column_of sketch
  pub row_is : row ≡ row_of sketch
  pub white : (x y : ℕ) → ComesYet column row x y → is_black_at sketch.shape x y ≡ false

-- so it is, where a pixel hasn't been read
abbrev pub StandsAt : Sketch → ℕ → ℕ → Type 0
StandsAt sketch column row = IsUnread sketch → IsNext sketch column row

-- the place that comes after a place, in rows of a width: at its right, or at the left end of the row below
abbrev pub column_behind : ℕ → ℕ → ℕ
column_behind width column = if nat_lt (column + 1) width then column + 1 else 0

abbrev pub row_behind : ℕ → ℕ → ℕ → ℕ
row_behind width column row = if nat_lt (column + 1) width then row else row - 1
