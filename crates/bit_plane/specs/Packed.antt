-- How pixels are packed into words.
use Rattle.std.specs.Prelude.{◌≡◌, ℕ, ◌+◌, ◌*◌, ◌/◌, ◌%◌, ◌≤◌, min, ◌==◌, List, length}
use Rattle.bit_plane.specs.Bits.{bit}
use Rattle.bit_plane.specs.Pixels.{Pixels, pixels_where, area_limit}

-- the pixels of packed words: bits run on from row to row
abbrev pub pixels_of : ℕ → ℕ → List ℕ → Pixels
pixels_of width height words = pixels_where width height (λ x y. bit words (y * width + x) == 1)

-- the words are as many as the pixels need, and no bit behind the last pixel is set
pub record IsPacked (width height : ℕ) (words : List ℕ) : Type 0 where
  pub area : width * height ≤ area_limit
  pub size : length words ≡ width * height / 64 + min 1 (width * height % 64)
  pub rest : (i : ℕ) → width * height ≤ i → bit words i ≡ 0
