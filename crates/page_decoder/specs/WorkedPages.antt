-- Pages with includes, colours and flags, and small libraries, whose readings are worked out. Their table is that of one row, with which
-- each decision is a bit of the input inverted.
use Rattle.std.specs.Prelude.{ℕ, ◌≡◌, List, [], ◌∷◌, ◌++◌, map, None, codes}
use Rattle.djvu_base.specs.Library.{Mark, Whole, File, Library}
use Rattle.djvu_base.specs.declared.faults.FaultKind.{FaultKind}
use Rattle.djvu_base.specs.Picture.{Picture}
use Rattle.iff_chunks.specs.Worked.{form_with, header, page}
use Rattle.zp_table.specs.declared.rows.Row.{Row}
use Rattle.zp_table.specs.Listing.{flat_rows}
use Rattle.layer_compose.specs.Drawing.{sum_of}
use Rattle.include_graph.specs.Verdicts.{fault_at}
use Rattle.include_graph.specs.Worked.{included_file, include_of, includes_one}
use Rattle.page_decoder.specs.Given.{Page, Known, Given}
use Rattle.page_decoder.specs.PageRead.{Drawing, Ending, Refused, PageRead}
use Rattle.page_decoder.specs.Read.{read}
use Rattle.page_decoder.specs.Libraries.{run}
use Rattle.page_decoder.specs.Worked.{mask_chunk}

-- a page alone in its folder
abbrev pub nothing_known : Known
nothing_known = record { outlines = λ file. None; results = λ file. None }

abbrev pub page_with : List Row → Mark → List ℕ → Given
page_with table mark bytes = record {
  home = record { role = Page; table = table; names = codes "p" ∷ []; file = 0 };
  known = nothing_known;
  bytes = bytes;
  mark = mark;
}

abbrev pub read_alone : Mark → List ℕ → PageRead
read_alone mark bytes = read (page_with flat_rows mark bytes)

-- a chunk of a background or of a foreground, of which these bytes are there
abbrev pub back_chunk : ℕ → List ℕ → List ℕ
back_chunk size bytes = header (codes "BG44") size ++ bytes

abbrev pub front_chunk : ℕ → List ℕ → List ℕ
front_chunk size bytes = header (codes "FG44") size ++ bytes

abbrev pub dictionary_chunk : ℕ → List ℕ → List ℕ
dictionary_chunk size bytes = header (codes "Djbz") size ++ bytes

-- grey of one pixel, without ZP data, and its pad byte
abbrev pub grey_chunk : List ℕ
grey_chunk = back_chunk 9 (0x00 ∷ 0x01 ∷ 0x81 ∷ 0x02 ∷ 0x00 ∷ 0x01 ∷ 0x00 ∷ 0x01 ∷ 0x00 ∷ 0x00 ∷ [])

-- a dictionary of one black pixel, and a mask that copies it, with their pad bytes
abbrev pub dot_dictionary : List ℕ
dot_dictionary = dictionary_chunk 3 (0xF4 ∷ 0xD8 ∷ 0x3F ∷ 0x00 ∷ [])

abbrev pub copying_mask : List ℕ
copying_mask = mask_chunk 5 (0x15 ∷ 0xDB ∷ 0x8E ∷ 0x34 ∷ 0x3F ∷ 0x00 ∷ [])

-- a page of two pixels with these flags, whose left pixel is black
abbrev pub pair_page : List ℕ → ℕ → ℕ → List ℕ
pair_page flags length size = form_with (codes "DJVU") size
    (header (codes "INFO") length ++ ((0x00 ∷ 0x02 ∷ 0x00 ∷ 0x01 ∷ 0x18 ∷ 0x00 ∷ 0x2C ∷ 0x01 ∷ 0x16 ∷ []) ++
    (flags ++ mask_chunk 4 (0xA7 ∷ 0x6D ∷ 0x86 ∷ 0x87 ∷ []))))

-- ---- libraries

abbrev pub whole_file : List ℕ → List ℕ → File
whole_file name bytes = record { name = name; bytes = bytes; mark = Whole }

-- an included file with the dictionary of one black pixel
abbrev pub dictionary_file : List ℕ
dictionary_file = included_file 16 dot_dictionary

-- a page that includes it, and copies its shape
abbrev pub including_page : List ℕ
including_page = page 46 (include_of 0x64 ++ copying_mask)

-- two pages that include a dictionary
abbrev pub shared_dictionary : Library
shared_dictionary = whole_file (codes "d") dictionary_file ∷ whole_file (codes "p") including_page ∷ whole_file (codes "q") including_page ∷ []

-- an included file whose dictionary has no shape
abbrev pub empty_file : List ℕ
empty_file = included_file 14 (dictionary_chunk 1 (0xF0 ∷ 0x00 ∷ []))

-- a page that includes both, in this order, and copies the shape
abbrev pub two_dictionaries : ℕ → ℕ → Library
two_dictionaries first second =
    whole_file (codes "d") dictionary_file ∷ whole_file (codes "e") empty_file
    ∷ whole_file (codes "p") (page 56 (include_of first ++ (include_of second ++ copying_mask))) ∷ []

-- an included file without a dictionary of its own, which includes one that has one, and a page that includes the first and has its own
-- dictionary, without a shape
abbrev pub chain : Library
chain =
    whole_file (codes "d") dictionary_file ∷ whole_file (codes "g") (includes_one 0x64)
    ∷ whole_file (codes "p") (page 56 (include_of 0x67 ++ (dictionary_chunk 1 (0xF0 ∷ 0x00 ∷ []) ++ copying_mask))) ∷ []

-- an included file whose dictionary has a mark, and a page that includes it
abbrev pub marked_dictionary : Library
marked_dictionary =
    whole_file (codes "d") (included_file 14 (dictionary_chunk 1 (0x7F ∷ 0x00 ∷ []))) ∷ whole_file (codes "p") including_page ∷ []

-- a page whose mask tells another count of inherited shapes than there are
abbrev pub other_count : Library
other_count = whole_file (codes "d") dictionary_file ∷ whole_file (codes "p") (page 42 (include_of 0x64 ++ mask_chunk 2 (0x15 ∷ 0x7F ∷ []))) ∷ []

-- two files that include each other, and two pages
abbrev pub round_about : Library
round_about =
    whole_file (codes "a") (included_file 14 (include_of 0x62)) ∷ whole_file (codes "b") (included_file 14 (include_of 0x61))
    ∷ whole_file (codes "p") (page 32 (include_of 0x61)) ∷ whole_file (codes "q") (page 32 (include_of 0x62)) ∷ []

-- a page in a library of one file
abbrev pub run_alone : List ℕ → PageRead
run_alone bytes = run flat_rows (whole_file (codes "p") bytes ∷ []) 0

-- ---- drawings of one pixel

abbrev pub white_pixel : Picture
white_pixel = record { width = 1; height = 1; samples = 255 ∷ 255 ∷ 255 ∷ [] }

abbrev pub black_pixel : Picture
black_pixel = record { width = 1; height = 1; samples = 0 ∷ 0 ∷ 0 ∷ [] }

-- ---- what is told

-- chunks and sum of each drawing, the decisions, and the end
abbrev pub notices_in : PageRead → List (ℕ × ℕ)
notices_in read = map (λ (drawing : Drawing). (drawing.chunks, sum_of drawing.layers)) read.left.told.drawings

pub record Tells (read : PageRead) (notices : List (ℕ × ℕ)) (decisions : ℕ) (end : Ending) : Type 0 where
  pub notices_so : notices_in read ≡ notices
  pub decisions_so : read.left.told.decisions ≡ decisions
  pub end_so : read.end ≡ end

-- a fault in this file, at this place
abbrev pub faulty : FaultKind → ℕ → ℕ → Ending
faulty kind file offset = Refused (fault_at kind file offset)
