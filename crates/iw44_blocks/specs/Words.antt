-- Words of bits: one bit for each of so many numbers in a row.
use Rattle.std.specs.Prelude.{◌≡◌, ℕ, zero, suc, ◌+◌, ◌*◌, ◌/◌, ◌%◌, ◌<◌, ◌==◌, Bool, not, ℤ, pos, unsigned_abs, List, length, slice_index_or}
use Rattle.iw44_blocks.specs.Plane.{Plane, coefficient}

abbrev pub is_zero : ℤ → Bool
is_zero value = unsigned_abs value == 0

-- the bits of a word, from the lowest on, are what a test says of so many numbers from one on, and it has no others
unfoldable pub AreBits : (ℕ → Bool) → ℕ → ℕ → ℕ → Type 0
AreBits test zero from word = word ≡ 0
AreBits test (suc count) from word = ((word % 2 == 1) ≡ test from) × AreBits test count (from + 1) (word / 2)

-- whether the number at a place isn't 0
abbrev pub is_some_at : List ℤ → ℕ → Bool
is_some_at numbers place = not (is_zero (slice_index_or numbers place (pos 0)))

-- whether the coefficient of a block with this index isn't 0
abbrev pub is_some : Plane → ℕ → ℕ → Bool
is_some plane block index = not (is_zero (coefficient plane block index))

-- a word for each 16 numbers, whose bits say which of them aren't 0
pub record HasWords (numbers : List ℤ) (words : List ℕ) : Type 0 where
  pub count : 16 * length words ≡ length numbers
  pub bits : (k : ℕ) → k < length words → AreBits (is_some_at numbers) 16 (16 * k) (slice_index_or words k 0)
