-- Bits of numbers, and of lists of 64-bit words.
use Rattle.std.specs.Prelude.{Bool, true, false, ℕ, ◌*◌, ◌/◌, ◌%◌, ◌^◌, ◌==◌, List, length, count_by, slice_index}
use Rattle.std.specs.List.{range_with_len}

-- bit i of a number, from the lowest: 0 or 1
unfoldable pub digit : ℕ → ℕ → ℕ
digit n i = n / 2 ^ i % 2

-- bit i of a list of words, from the lowest of the first word on: 0 or 1, and 0 behind the last word
unfoldable pub bit : List ℕ → ℕ → ℕ
bit words i = digit (slice_index words (i / 64)) (i % 64)

-- a colour as a digit: black is 1
abbrev pub digit_of : Bool → ℕ
digit_of true = 1
digit_of false = 0

-- how many bits of a list of words are set
abbrev pub set_count : List ℕ → ℕ
set_count words = count_by (λ i. bit words i == 1) (range_with_len 0 (64 * length words))
