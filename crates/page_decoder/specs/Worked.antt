-- Files whose readings are worked out.
use Rattle.std.specs.Prelude.{ℕ, ◌++◌, List, [], ◌∷◌, codes}
use Rattle.djvu_base.specs.Library.{Mark}
use Rattle.iff_chunks.specs.Worked.{header, page}
use Rattle.zp_table.specs.Listing.{flat_rows}
use Rattle.jb2_records.specs.Worked.{dot}
use Rattle.page_decoder.specs.declared.page.Size.{Size}
use Rattle.page_decoder.specs.Reading.{Notice, Ending, Reading, blank_page, with_mask, reading}

-- a mask's chunk of this length, of which these bytes are there
abbrev pub mask_chunk : ℕ → List ℕ → List ℕ
mask_chunk size bytes = header (codes "Sjbz") size ++ bytes

-- a mask of one black pixel
abbrev pub dot_bytes : List ℕ
dot_bytes = 0xB7 ∷ 0x6D ∷ 0x86 ∷ 0x87 ∷ []

-- the 46 bytes of a page of one pixel, which is black
abbrev pub dot_file : List ℕ
dot_file = page 34 (mask_chunk 4 dot_bytes)

abbrev pub one_pixel : Size
one_pixel = record { width = 1; height = 1 }

-- the drawing of the white pixel behind the first chunk
abbrev pub white : Notice
white = record { chunks = 1; layers = blank_page one_pixel }

-- that of the black one behind so many chunks
abbrev pub black : ℕ → Notice
black chunks = record { chunks = chunks; layers = with_mask (blank_page one_pixel) dot }

-- with the table of one row, with which each decision is a bit of the input inverted
abbrev pub read : Mark → List ℕ → Reading
read mark bytes = reading flat_rows mark bytes

abbrev pub found : List Notice → Ending → ℕ → Reading
found notices end decisions = record { notices = notices; end = end; decisions = decisions }
