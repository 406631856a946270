-- What of packed words is black in a column or in a row.
use Rattle.std.specs.Prelude.{◌≡◌, ℕ, suc, ◌+◌, ◌*◌, ◌^◌, ◌<◌, ◌≤◌, List}
use Rattle.bit_plane.specs.Bits.{bit, digit}

-- so many columns from x on, as a word: a digit is set exactly where its column has a black pixel in the first rows
pub record IsInk (words : List ℕ) (width x count rows ink : ℕ) : Type 0 where
  pub below : ink < 2 ^ count
  pub black : (i : ℕ) → i < count → digit ink i ≡ 1 → (y : ℕ) × (y < rows) × (bit words (y * width + x + i) ≡ 1)
  pub white : (i : ℕ) → i < count → digit ink i ≡ 0 → (y : ℕ) → y < rows → bit words (y * width + x + i) ≡ 0

-- the first column with a black pixel, or the width where there is none
pub record IsLeft (words : List ℕ) (width height left : ℕ) : Type 0 where
  pub within : left ≤ width
  pub white : (x y : ℕ) → x < left → y < height → bit words (y * width + x) ≡ 0
  pub black : left < width → (y : ℕ) × (y < height) × (bit words (y * width + left) ≡ 1)

-- the column behind the last one with a black pixel, or 0 where there is none
pub record IsBehind (words : List ℕ) (width height behind : ℕ) : Type 0 where
  pub within : behind ≤ width
  pub white : (x y : ℕ) → behind ≤ x → x < width → y < height → bit words (y * width + x) ≡ 0
  pub black : (x : ℕ) → suc x ≡ behind → (y : ℕ) × (y < height) × (bit words (y * width + x) ≡ 1)

-- the first bit that is set
pub record IsFirst (words : List ℕ) (at : ℕ) : Type 0 where
  pub set : bit words at ≡ 1
  pub others : (i : ℕ) → i < at → bit words i ≡ 0

-- the last bit that is set
pub record IsLast (words : List ℕ) (at : ℕ) : Type 0 where
  pub set : bit words at ≡ 1
  pub others : (i : ℕ) → at < i → bit words i ≡ 0

-- no bit is set
abbrev pub IsClear : List ℕ → Type 0
IsClear words = (i : ℕ) → bit words i ≡ 0
