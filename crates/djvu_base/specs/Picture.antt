-- Pictures: what a raster holds.
use Rattle.std.specs.Prelude.{◌≡◌, ℕ, ◌*◌, List, length}

-- three samples for each pixel, rows from the top, each row from the left
pub record Picture : Type 0 where
  pub width : ℕ
  pub height : ℕ
  pub samples : List ℕ

-- a picture has exactly three samples for each pixel
abbrev pub IsPicture : Picture → Type 0
IsPicture picture = length picture.samples ≡ 3 * picture.width * picture.height
