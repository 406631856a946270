-- Slices that were worked out: with the table `flat`, of which a decision is the next bit of the input inverted, and with
-- `djvu`.
use Rattle.std.specs.Prelude.{ℕ, Bool, true, List, [], ◌∷◌}
use Rattle.zp_table.specs.Listing.{flat_rows, djvu_rows}
use Rattle.zp_decoder.specs.Chunk.{Chunk, chunk}
use Rattle.iw44_blocks.specs.Plane.{zero_plane}
use Rattle.iw44_slices.specs.Reading.{Reading, at_start, plane_of, read_slice}

-- the first slice of a plane of one place
abbrev pub first_slice : List ℕ → Bool → Reading
first_slice payload ended = read_slice (chunk flat_rows payload ended) 0 (zero_plane 1 1) at_start

-- that slice, and then slice 10, which does the same band with half the thresholds
abbrev pub after_first : Chunk → Reading → Reading
after_first from first = read_slice from 10 (plane_of first.left) first.at

abbrev pub two_slices : List ℕ → Bool → Reading
two_slices payload ended = after_first (chunk flat_rows payload ended) (first_slice payload ended)

-- slices 0 and 10 of a plane of one place, with the table `djvu`
abbrev pub djvu_pair : Reading
djvu_pair = after_first (chunk djvu_rows (0x06 ∷ 0x6E ∷ []) true) (read_slice (chunk djvu_rows (0x06 ∷ 0x6E ∷ []) true) 0 (zero_plane 1 1) at_start)

-- slice 47 of a new plane, out of an empty chunk
abbrev pub root_alone : Reading
root_alone = read_slice (chunk djvu_rows [] true) 47 (zero_plane 1 1) at_start
