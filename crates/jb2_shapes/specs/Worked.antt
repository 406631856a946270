-- Shapes that were worked out apart from the definitions.
use Rattle.std.specs.Prelude.{ℕ, true, List, [], ◌∷◌, Some, None}
use Rattle.zp_table.specs.Listing.{djvu_rows, flat_rows}
use Rattle.zp_decoder.specs.Decision.{interval}
use Rattle.bit_plane.specs.Pixels.{Pixels}
use Rattle.zp_decoder.specs.States.{fresh}
use Rattle.jb2_shapes.specs.Shape.{Reading, direct_reading, progress, empty_sketch}
use Rattle.jb2_shapes.specs.Refined.{refined_reading}

-- one black pixel
abbrev pub dot : Pixels
dot = record { width = 1; height = 1; black = true ∷ [] }

abbrev pub payload : List ℕ
payload = 0x3C ∷ 0x91 ∷ 0xE7 ∷ 0x05 ∷ 0xB2 ∷ 0x6A ∷ 0x48 ∷ 0xD3 ∷ []

-- a direct shape of 5 by 4 pixels at the start of a chunk, and then one of 4 by 5 that refines it
abbrev pub first : Reading
first = direct_reading djvu_rows payload true (progress (empty_sketch 5 4) fresh None)

abbrev pub second : Reading
second = refined_reading first.at.sketch.shape djvu_rows payload true (progress (empty_sketch 4 5) first.at.states first.at.place)

-- one pixel of a mark, 17 decisions after the start of its chunk
abbrev pub pixel_of_a_mark : Reading
pixel_of_a_mark = direct_reading flat_rows (0xB7 ∷ 0x6D ∷ 0x86 ∷ 0x87 ∷ []) true (progress (empty_sketch 1 1) fresh (Some (interval 0 0x0D0F 17)))

-- one pixel that refines one pixel, 27 decisions after the start
abbrev pub refined_dot : Reading
refined_dot = refined_reading dot flat_rows (0xB7 ∷ 0x4D ∷ 0x88 ∷ 0xA1 ∷ 0xA1 ∷ []) true (progress (empty_sketch 1 1) fresh (Some (interval 0 0x0D0F 27)))
