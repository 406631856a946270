-- Layers that were worked out with the table `flat`, of which a decision is the next bit of the input inverted.
use Rattle.std.specs.Prelude.{ℕ, ◌==◌, ◌&&◌, Bool, true, List, [], ◌∷◌, None}
use Rattle.djvu_base.specs.Picture.{Picture}
use Rattle.zp_table.specs.Listing.{flat_rows}
use Rattle.iw44_image.specs.Header.{Opening, open_chunk}
use Rattle.iw44_image.specs.Layer.{Allowed, any_size, data_of, Layer, LayerReading, read_layer, header_or}
use Rattle.iw44_image.specs.Samples.{picture, components_of}

-- a layer of one chunk, and one of two
abbrev pub one_chunk : List ℕ → Bool → LayerReading
one_chunk bytes ended = read_layer flat_rows (any_size 100) (data_of bytes ended ∷ [])

abbrev pub two_chunks : List ℕ → List ℕ → LayerReading
two_chunks first second = read_layer flat_rows (any_size 100) (data_of first true ∷ data_of second true ∷ [])

-- the start of the first chunk of a layer
abbrev pub first_opening : List ℕ → Bool → Opening
first_opening bytes ended = open_chunk 100 0 None bytes ended

-- the picture of a layer
abbrev pub layer_picture : Layer → Picture
layer_picture layer = picture (header_or layer.header) (components_of layer.planes)

-- layers of one pixel alone are taken
abbrev pub one_pixel : Allowed
one_pixel = record { area = 100; fits = λ width height. (width == 1) && (height == 1) }

abbrev pub checked_chunk : List ℕ → Bool → LayerReading
checked_chunk bytes ended = read_layer flat_rows one_pixel (data_of bytes ended ∷ [])
