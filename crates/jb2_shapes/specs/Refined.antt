-- Refined shapes (DjVu 3 reference, JB2): shapes that are read beside a matched one, whose ink lies in their middle.
use Rattle.std.specs.Prelude.{ℕ, ◌/◌, Bool, List, [], ◌∷◌, ◌++◌, ℤ, pos, negsuc, ◌+ℤ◌, ◌-ℤ◌, ◌≤ℤ◌}
use Rattle.zp_table.specs.declared.rows.Row.{Row}
use Rattle.bit_plane.specs.Pixels.{Pixels, is_black}
use Rattle.bit_plane.specs.declared.ink.InkBox.{InkBox}
use Rattle.bit_plane.specs.Ink.{ink_box_of, extent}
use Rattle.jb2_shapes.specs.Shape.{Sketch, Progress, Reading, reading_of}

-- from a place of a shape of this size to the matched place, for ink of this extent that ends at high
abbrev pub shift : ℕ → ℕ → ℤ → ℤ
shift size extent high = (pos (size / 2) -ℤ pos size +ℤ pos 1) -ℤ (pos (extent / 2) -ℤ high)

abbrev pub column_shift : Pixels → InkBox → ℤ
column_shift shape box = shift shape.width (extent box.left box.right) box.right

abbrev pub row_shift : Pixels → InkBox → ℤ
row_shift shape box = shift shape.height (extent box.bottom box.top) box.top

-- the colours of four pixels near (x, y) that were read before it
abbrev pub new_colours : Pixels → ℤ → ℤ → List Bool
new_colours shape x y =
    is_black shape (x -ℤ pos 1) (y +ℤ pos 1) ∷ is_black shape x (y +ℤ pos 1) ∷ is_black shape (x +ℤ pos 1) (y +ℤ pos 1)
    ∷ is_black shape (x -ℤ pos 1) y ∷ []

-- and of seven pixels of the matched shape, at and near the matched place: one above it, three beside each other, and
-- three below
abbrev pub matched_colours : Pixels → ℤ → ℤ → List Bool
matched_colours matched x y =
    is_black matched x (y +ℤ pos 1)
    ∷ is_black matched (x -ℤ pos 1) y ∷ is_black matched x y ∷ is_black matched (x +ℤ pos 1) y
    ∷ is_black matched (x -ℤ pos 1) (y -ℤ pos 1) ∷ is_black matched x (y -ℤ pos 1) ∷ is_black matched (x +ℤ pos 1) (y -ℤ pos 1) ∷ []

-- the colours that name a context: the matched place is so far right of and above that of the pixel
abbrev pub refined_context : Pixels → ℤ → ℤ → Pixels → ℤ → ℤ → List Bool
refined_context matched right up shape x y = new_colours shape x y ++ matched_colours matched (x +ℤ right) (y +ℤ up)

-- a shape that is read beside a matched one
pub record Refinement : Type 0 where
  pub matched : Pixels
  pub sketch : Sketch

-- a shape is read on beside a matched one, with a state table, after these bytes of the chunk, which are all of it or not
abbrev pub refined_reading : Pixels → List Row → List ℕ → Bool → Progress → Reading
refined_reading matched rows payload ended at =
    reading_of (refined_context matched (column_shift at.sketch.shape (ink_box_of matched)) (row_shift at.sketch.shape (ink_box_of matched))) rows payload ended at

-- a matched shape, and how far right and up its places are from those of the pixels
pub record Matching : Type 0 where
  pub matched : Pixels
  pub right : ℤ
  pub up : ℤ

abbrev pub matching_context : Matching → Pixels → ℤ → ℤ → List Bool
matching_context matching shape x y = refined_context matching.matched matching.right matching.up shape x y

-- so far at most
pub record IsShift (far : ℤ) : Type 0 where
  pub low : negsuc 0xff_ffff_ffff ≤ℤ far
  pub high : far ≤ℤ pos 0xff_ffff_ffff
