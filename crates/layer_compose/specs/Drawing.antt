-- The drawing of a page: what its places show, its rows, its sum and its preview. Places of a page count from 0 at the
-- bottom left, those of a drawing from the top left. Channels of a pixel are 0 red, 1 green, 2 blue.
use Rattle.std.specs.Prelude.{◌≡◌, ℕ, ◌+◌, ◌-◌, ◌*◌, ◌/◌, ◌%◌, ◌≤◌, max, Bool, false, not, List, map, sum, count_by, slice_index, Option, Some, None, if◌then◌else◌, IsSome, IfSome}
use Rattle.std.specs.Int.{div_ceil}
use Rattle.std.specs.List.{range_with_len}
use Rattle.std.specs.Option.{unwrap_or}
use Rattle.djvu_base.specs.Picture.{Picture}
use Rattle.djvu_base.specs.declared.turns.Turn.{Turn}
use Rattle.djvu_base.specs.declared.turns.Turn.TheVariants.{Upright, Right, Over, Left}
use Rattle.bit_plane.specs.Pixels.{Pixels, is_black_at, area_limit}
use Rattle.layer_compose.specs.Reduction.{reduction_of}
use Rattle.layer_compose.specs.declared.layers.Layers.{Layers}

-- the mask, where there is one, has the size of the page as it is coded
abbrev pub MaskFits : Layers → Type 0
MaskFits layers = IfSome layers.mask (λ mask. (mask.width ≡ layers.width) × (mask.height ≡ layers.height))

-- a layer of colour, where there is one, has a reduction
abbrev pub ColourFits : Layers → Option Picture → Type 0
ColourFits layers colour = IfSome colour (λ picture. IsSome (reduction_of (layers.width, layers.height) (picture.width, picture.height)))

-- layers that can be drawn: an area within the limit, a mask of the page's size, and colours that have a reduction
pub record IsDrawable (layers : Layers) : Type 0 where
  pub area : layers.width * layers.height ≤ area_limit
  pub mask : MaskFits layers
  pub front : ColourFits layers layers.front
  pub back : ColourFits layers layers.back

-- ---- places of the page as it is coded, from the bottom left

-- whether a mask has the pixel at a place of the page; where there is none, it has none
abbrev pub in_mask : Option Pixels → ℕ → ℕ → Bool
in_mask None x y = false
in_mask (Some mask) x y = is_black_at mask x y

-- a sample of a picture, whose rows stand from the top
abbrev pub picture_sample : Picture → ℕ → ℕ → ℕ → ℕ
picture_sample picture x y channel = slice_index picture.samples (3 * ((picture.height - 1 - y) * picture.width + x) + channel)

-- how many of the page's pixels stand side by side, and one above the other, for one of a layer; 1 where none is there
abbrev pub reduction_in : Layers → Option Picture → ℕ
reduction_in layers None = 1
reduction_in layers (Some picture) = unwrap_or (reduction_of (layers.width, layers.height) (picture.width, picture.height)) 1

-- a layer's sample at a place of the page, or a plain one where there is no such layer
abbrev pub layer_sample : Option Picture → ℕ → ℕ → ℕ → ℕ → ℕ → ℕ
layer_sample None plain k x y channel = plain
layer_sample (Some picture) plain k x y channel = picture_sample picture (x / k) (y / k) channel

-- the foreground's sample at a place of the page, or black without a foreground
abbrev pub front_sample : Layers → ℕ → ℕ → ℕ → ℕ
front_sample layers x y channel = layer_sample layers.front 0 (reduction_in layers layers.front) x y channel

-- the background's sample at a place of the page, or white without a background
abbrev pub back_sample : Layers → ℕ → ℕ → ℕ → ℕ
back_sample layers x y channel = layer_sample layers.back 255 (reduction_in layers layers.back) x y channel

-- a sample at a place of the page: the foreground's where the mask has the pixel, and else the background's
abbrev pub sample_at : Layers → ℕ → ℕ → ℕ → ℕ
sample_at layers x y channel = if in_mask layers.mask x y then front_sample layers x y channel else back_sample layers x y channel

-- the same with rows from the top
abbrev pub coded_sample : Layers → ℕ → ℕ → ℕ → ℕ
coded_sample layers x y channel = sample_at layers x (layers.height - 1 - y) channel

-- ---- the page, turned

-- the samples of a page of this size once it is turned; both are given by column, row from the top and channel
abbrev pub turned : Turn → ℕ → ℕ → (ℕ → ℕ → ℕ → ℕ) → ℕ → ℕ → ℕ → ℕ
turned Upright width height sample x y channel = sample x y channel
turned Right width height sample x y channel = sample y (height - 1 - x) channel
turned Over width height sample x y channel = sample (width - 1 - x) (height - 1 - y) channel
turned Left width height sample x y channel = sample (width - 1 - y) x channel

-- the sizes of a page of this size once it is turned: width, height
abbrev pub turned_size : Turn → ℕ → ℕ → ℕ × ℕ
turned_size Upright width height = (width, height)
turned_size Right width height = (height, width)
turned_size Over width height = (width, height)
turned_size Left width height = (height, width)

-- columns of the drawing
abbrev pub drawing_width : Layers → ℕ
drawing_width layers = (turned_size layers.turn layers.width layers.height).0

-- rows of the drawing
abbrev pub drawing_height : Layers → ℕ
drawing_height layers = (turned_size layers.turn layers.width layers.height).1

-- a sample at a place of the drawing
abbrev pub sample_from_top : Layers → ℕ → ℕ → ℕ → ℕ
sample_from_top layers x y channel = turned layers.turn layers.width layers.height (coded_sample layers) x y channel

-- ---- rows, sums and previews

-- the samples of so many rows of this width, given by column, row and channel
abbrev pub samples_by : ℕ → ℕ → (ℕ → ℕ → ℕ → ℕ) → List ℕ
samples_by width count sample = map (λ n. sample (n / 3 % width) (n / 3 / width) (n % 3)) (range_with_len 0 (3 * width * count))

-- all samples of the drawing
unfoldable pub samples_of : Layers → List ℕ
samples_of layers = samples_by (drawing_width layers) (drawing_height layers) (sample_from_top layers)

abbrev pub raster_of : Layers → Picture
raster_of layers = record { width = drawing_width layers; height = drawing_height layers; samples = samples_of layers }

-- the samples of one row of the drawing
unfoldable pub row_of : Layers → ℕ → List ℕ
row_of layers y = samples_by (drawing_width layers) 1 (λ x row channel. sample_from_top layers x y channel)

-- the samples of so many rows of the drawing, from one on
unfoldable pub rows_of : Layers → ℕ → ℕ → List ℕ
rows_of layers from count = samples_by (drawing_width layers) count (λ x row channel. sample_from_top layers x (from + row) channel)

-- the sum of all samples of the drawing
abbrev pub sum_of : Layers → ℕ
sum_of layers = sum (samples_of layers)

-- how many pixels of the page the mask doesn't have
abbrev pub white_count : Layers → ℕ
white_count layers = count_by (λ n. not (in_mask layers.mask (n % layers.width) (n / layers.width))) (range_with_len 0 (layers.width * layers.height))

-- the step of the preview of a drawing of this size: the least with which the preview is at most 128 by 128
abbrev pub step_of : ℕ → ℕ → ℕ
step_of width height = max 1 (div_ceil (max width height) 128)

-- the samples of the preview: each pixel is the drawing's that is so many steps to the right and down
unfoldable pub preview_samples : Layers → ℕ → List ℕ
preview_samples layers step =
    samples_by (div_ceil (drawing_width layers) step) (div_ceil (drawing_height layers) step)
    (λ x y channel. sample_from_top layers (x * step) (y * step) channel)

-- the picture of every so many pixels of the drawing
abbrev pub picture_by_step : Layers → ℕ → Picture
picture_by_step layers step = record {
  width = div_ceil (drawing_width layers) step;
  height = div_ceil (drawing_height layers) step;
  samples = preview_samples layers step;
}

abbrev pub preview_of : Layers → Picture
preview_of layers = picture_by_step layers (step_of (drawing_width layers) (drawing_height layers))
