-- Bits that are coded in contexts: those of numbers and of shapes (DjVu 3 reference, JB2).
use Rattle.std.specs.Prelude.{ℕ, zero, suc, ◌*◌, ◌++◌, ℤ, pos, Bool, List, [], ◌∷◌, Option, Some, None}
use Rattle.bit_plane.specs.Pixels.{Pixels, is_black}
use Rattle.bit_plane.specs.Ink.{ink_box_of}
use Rattle.jb2_numbers.specs.declared.roots.Root.{Root}
use Rattle.jb2_numbers.specs.Contexts.{Name, name}
use Rattle.jb2_numbers.specs.Phases.{implied}
use Rattle.jb2_numbers.specs.Number.{Wanted, wanted, phase_after, decisions_of}
use Rattle.jb2_shapes.specs.Shape.{Sketch, empty_sketch, column_of, row_of, with_pixel, direct_context}
use Rattle.jb2_shapes.specs.Refined.{refined_context, column_shift, row_shift}

-- contexts: of a number's decision, of a pixel by the colours near it, of a start's flag, and of the bit that tells a new row
pub data Context : Type 0 where
  Number : Name → Context
  Pixel : List Bool → Context
  Flag : Context
  RowStart : Context

-- a bit in a context; or the contexts of numbers begin anew, for which no bit is coded
pub data Coded : Type 0 where
  Bit : Context → Bool → Coded
  Anew : Coded

-- a decision that the bounds imply isn't coded
abbrev pub coded_where : Option Bool → Name → Bool → List Coded
coded_where None at bit = Bit (Number at) bit ∷ []
coded_where (Some implied) at bit = []

-- those of a number's decisions that are coded; of the decisions the last one stands first
abbrev pub coded_of : Wanted → List Bool → List Coded
coded_of number [] = []
coded_of number (bit ∷ earlier) = coded_of number earlier ++ coded_where (implied (phase_after number earlier)) (name number.root earlier) bit

-- a number from low to high
abbrev pub number_coded : Root → ℤ → ℤ → ℤ → List Coded
number_coded root low high value = coded_of (wanted root low high) (decisions_of (wanted root low high) value)

-- the pixel of a shape that comes next
abbrev pub pixel_at : Pixels → Sketch → Bool
pixel_at shape sketch = is_black shape (pos (column_of sketch)) (pos (row_of sketch))

-- so many pixels of a shape, behind those of the sketch
abbrev pub pixels_coded : (Pixels → ℤ → ℤ → List Bool) → Pixels → ℕ → Sketch → List Coded
pixels_coded context shape zero sketch = []
pixels_coded context shape (suc left) sketch =
    Bit (Pixel (context sketch.shape (pos (column_of sketch)) (pos (row_of sketch)))) (pixel_at shape sketch)
    ∷ pixels_coded context shape left (with_pixel sketch (pixel_at shape sketch))

abbrev pub shape_coded : (Pixels → ℤ → ℤ → List Bool) → Pixels → List Coded
shape_coded context shape = pixels_coded context shape (shape.width * shape.height) (empty_sketch shape.width shape.height)

-- the pixels of a shape of its own
abbrev pub direct_coded : Pixels → List Coded
direct_coded shape = shape_coded direct_context shape

-- the pixels of a shape that refines a matched one
abbrev pub refined_coded : Pixels → Pixels → List Coded
refined_coded matched shape =
    shape_coded (refined_context matched (column_shift shape (ink_box_of matched)) (row_shift shape (ink_box_of matched))) shape
