-- For the code's own functions: samples at hand, and what they are of.
use Rattle.std.specs.Prelude.{◌≡◌, ℕ, ◌+◌, ◌-◌, ◌*◌, ◌/◌, ◌%◌, ◌<◌, Bool, true, false, if◌then◌else◌, ℤ, pos}
use Rattle.std.specs.Prelude.{List, length, map, slice_index_or, Option, Some, None, ⊤}
use Rattle.std.specs.List.{range_with_len}
use Rattle.iw44_image.specs.declared.colours.Colour.{Colour}
use Rattle.iw44_blocks.specs.Plane.{Plane}
use Rattle.iw44_blocks.specs.Lattice.{Lattice, value_at}
use Rattle.iw44_image.specs.declared.headers.Header.{Header}
use Rattle.iw44_image.specs.declared.rasters.Samples.{Samples}
use Rattle.iw44_image.specs.declared.rasters.ChromaSamples.{ChromaSamples}
use Rattle.iw44_image.specs.Samples.{Components, sample_of, plane_samples, grey, colour, channel_of}

abbrev pub AreChroma : Header → Components → Option ChromaSamples → Type 0
AreChroma header it None = header.grey ≡ true
AreChroma header it (Some chroma) =
    (header.grey ≡ false) × ((chroma.b.items ≡ plane_samples header.half it.b) × (chroma.r.items ≡ plane_samples header.half it.r))

-- samples of all planes of an image
pub record AreSamples (header : Header) (it : Components) (samples : Samples) : Type 0 where
  pub y : samples.y.items ≡ plane_samples false it.y
  pub chroma : AreChroma header it samples.chroma

abbrev pub IsOfSize : Header → Plane → Type 0
IsOfSize header plane = (plane.width ≡ header.width) × (plane.height ≡ header.height)

-- all planes of an image have its size
pub record HaveSize (header : Header) (it : Components) : Type 0 where
  pub y : IsOfSize header it.y
  pub b : IsOfSize header it.b
  pub r : IsOfSize header it.r

abbrev pub IsFullChroma : ℕ → Option ChromaSamples → Type 0
IsFullChroma count None = ⊤
IsFullChroma count (Some chroma) = (length chroma.b.items ≡ count) × (length chroma.r.items ≡ count)

-- each plane has so many samples
pub record IsFull (count : ℕ) (samples : Samples) : Type 0 where
  pub y : length samples.y.items ≡ count
  pub chroma : IsFullChroma count samples.chroma

abbrev pub number_in : List ℤ → ℕ → ℤ
number_in numbers n = slice_index_or numbers n (pos 0)

abbrev pub colour_by : List ℤ → Option ChromaSamples → ℕ → Colour
colour_by ys None n = grey (number_in ys n)
colour_by ys (Some chroma) n = colour (number_in ys n) (number_in chroma.b.items n) (number_in chroma.r.items n)

-- the colour of the samples at a place of the lists
abbrev pub colour_at : Samples → ℕ → Colour
colour_at samples n = colour_by samples.y.items samples.chroma n

-- sample n of a picture of this size, whose rows come from the top
abbrev pub painted_at : ℕ → ℕ → Samples → ℕ → ℕ
painted_at width height samples n = channel_of (n % 3) (colour_at samples ((height - 1 - n / 3 / width) * width + n / 3 % width))

-- the samples of so many pixels of it
abbrev pub painted : ℕ → ℕ → Samples → ℕ → List ℕ
painted width height samples count = map (painted_at width height samples) (range_with_len 0 (3 * count))

-- the column or row of a grid that has the value of a place: at half size two share one
abbrev pub shared_place : Bool → ℕ → ℕ
shared_place half n = if half then n / 2 else n

-- the sample of a place by a grid
abbrev pub shared_sample : Bool → Lattice → ℕ → ℕ → ℤ
shared_sample half grid x y = sample_of (value_at grid (shared_place half x) (shared_place half y))

-- a length of so many places has its columns or rows in a grid
abbrev pub AreShared : Bool → ℕ → ℕ → Type 0
AreShared half length count = (n : ℕ) → n < length → shared_place half n < count
