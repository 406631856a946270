-- What the code's own functions do to samples: three of them are a pixel, and pixels are laid over others.
use Rattle.std.specs.Prelude.{◌≡◌, ℕ, ◌/◌, ◌%◌, ◌+◌, ◌-◌, ◌<◌, ◌==◌, nat_lt, nat_le, Bool, ◌&&◌, List, map, sum, length, slice_index, Option, Some, None, IfSome, if◌then◌else◌}
use Rattle.std.specs.List.{range_with_len}
use Rattle.djvu_base.specs.Picture.{Picture}
use Rattle.bit_plane.specs.Bits.{digit}
use Rattle.layer_compose.specs.declared.colours.Colour.{Colour}
use Rattle.layer_compose.specs.declared.layers.Layers.{Layers}
use Rattle.layer_compose.specs.Drawing.{sample_at}

-- a channel of a colour
abbrev pub channel_of : Colour → ℕ → ℕ
channel_of colour channel = if channel == 0 then colour.red else (if channel == 1 then colour.green else colour.blue)

-- a colour has these samples, by channel
pub record IsColour (colour : Colour) (sample : ℕ → ℕ) : Type 0 where
  pub red : colour.red ≡ sample 0
  pub green : colour.green ≡ sample 1
  pub blue : colour.blue ≡ sample 2

-- a layer, where there is one, has a pixel for a place of its page
abbrev pub Covers : Option Picture → ℕ → ℕ → ℕ → Type 0
Covers layer k x y = IfSome layer (λ picture. (x / k < picture.width) × (y / k < picture.height))

-- the pixels that a test takes have these samples, by pixel and channel, and the others are as they were
abbrev pub Lays : (ℕ → Bool) → (ℕ → ℕ → ℕ) → List ℕ → List ℕ → Type 0
Lays test colour old new = (k : ℕ) → slice_index new k ≡ (if test (k / 3) then colour (k / 3) (k % 3) else slice_index old k)

-- whether a pixel is one of so many from the left
abbrev pub below : ℕ → ℕ → Bool
below count pixel = nat_lt pixel count

-- whether a pixel stands from one on and before another
abbrev pub in_span : ℕ → ℕ → ℕ → Bool
in_span from to pixel = nat_le from pixel && nat_lt pixel to

-- whether a pixel is one of so many from a place on, and its digit is 1
abbrev pub in_run : ℕ → ℕ → ℕ → ℕ → Bool
in_run digits from count pixel = in_span from (from + count) pixel && (digit digits (pixel - from) == 1)

-- the sum of a pixel's three samples
abbrev pub pixel_sum : Layers → ℕ → ℕ → ℕ
pixel_sum layers x y = sample_at layers x y 0 + sample_at layers x y 1 + sample_at layers x y 2

-- the sum of the samples of a row of the page as it is coded, counted from the bottom
abbrev pub row_sum : Layers → ℕ → ℕ
row_sum layers y = sum (map (λ x. pixel_sum layers x y) (range_with_len 0 layers.width))

-- a sample is one of a layer
abbrev pub IsSampleOf : Option Picture → ℕ → Type 0
IsSampleOf None sample = ⊥
IsSampleOf (Some picture) sample = (n : ℕ) × (n < length picture.samples) × (slice_index picture.samples n ≡ sample)
