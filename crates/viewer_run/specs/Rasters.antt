-- Rasters of drawings, as bytes in the format PPM.
use Rattle.std.specs.Prelude.{ℕ, ◌++◌, List, codes, decimal}
use Rattle.djvu_base.specs.Picture.{Picture}
use Rattle.djvu_base.specs.Text.{newline}

-- the head of a raster: `P6`, the sizes, and the largest sample
abbrev pub raster_head : ℕ → ℕ → List ℕ
raster_head width height = codes "P6" ++ (newline ++ (decimal width ++ (codes " " ++ (decimal height ++ (newline ++ (codes "255" ++ newline))))))

-- the raster of a drawing: the head, and the samples from the top row on
abbrev pub raster_text : Picture → List ℕ
raster_text picture = raster_head picture.width picture.height ++ picture.samples
