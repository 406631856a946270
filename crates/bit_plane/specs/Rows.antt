-- Pixels of a row, as the digits of a word.
use Rattle.std.specs.Prelude.{◌≡◌, ℕ, ◌<◌, ℤ, pos, ◌+ℤ◌}
use Rattle.bit_plane.specs.Bits.{digit, digit_of}
use Rattle.bit_plane.specs.Pixels.{Pixels, is_black}

-- these pixels of a row, from (x, y) on to the right, are the lowest digits of a word: the leftmost is the lowest, and a black
-- one is 1
abbrev pub IsRun : Pixels → ℤ → ℤ → ℕ → ℕ → Type 0
IsRun plane x y count word = (i : ℕ) → i < count → digit word i ≡ digit_of (is_black plane (x +ℤ pos i) y)
