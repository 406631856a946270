-- Runs of the machine that are worked out. Their table is that of one row, with which each decision is a bit of the input inverted.
use Rattle.std.specs.Prelude.{ℕ, ◌*◌, List, [], ◌∷◌, ◌++◌, take, drop, codes}
use Rattle.djvu_base.specs.Announced.{Announced}
use Rattle.djvu_base.specs.declared.ends.FileEnd.TheVariants as file_end
use Rattle.iff_chunks.specs.Worked.{page}
use Rattle.include_graph.specs.Worked.{include_of}
use Rattle.page_decoder.specs.Worked.{mask_chunk, dot_bytes, dot_file}
use Rattle.page_decoder.specs.WorkedPages.{grey_chunk, copying_mask, dictionary_file}
use Rattle.replay_core.specs.Machine.{Event, Feed, End, Step, Look, State, start}

-- the notice of a page of one pixel whose three samples are this number
abbrev pub pixel_notice : ℕ → ℕ → Announced
pixel_notice chunks sample = record {
  chunks = chunks;
  sum = 3 * sample;
  preview = record { width = 1; height = 1; samples = sample ∷ sample ∷ sample ∷ [] };
}

-- a page alone in its folder
abbrev pub alone : State
alone = start (codes "p" ∷ []) (0 ∷ [])

-- a page of 50 bytes, whose mask ends before the chunk's data do
abbrev pub page_in_pieces : List ℕ
page_in_pieces = page 38 (mask_chunk 8 (dot_bytes ++ 0xFF ∷ 0xFF ∷ 0xFF ∷ 0xFF ∷ []))

-- all but its last two bytes, and then these
abbrev pub in_two_pieces : List Event
in_two_pieces =
    Look 0 0 ∷ Feed 0 (take 48 page_in_pieces) ∷ Step 0 ∷ Step 0 ∷ Look 0 0
    ∷ Feed 0 (drop 48 page_in_pieces) ∷ Step 0 ∷ Step 0 ∷ Look 1 0 ∷ []

-- a file that a page includes, and the page
abbrev pub two_files : State
two_files = start (codes "d" ∷ codes "p" ∷ []) (1 ∷ [])

abbrev pub page_before : List ℕ
page_before = page 64 (include_of 0x64 ++ (grey_chunk ++ copying_mask))

-- the page, whose background comes before its dictionary, and then the dictionary
abbrev pub dictionary_last : List Event
dictionary_last =
    Feed 1 page_before ∷ Step 0 ∷ Step 0 ∷ Step 0 ∷ Look 0 0
    ∷ Feed 0 dictionary_file ∷ Step 0 ∷ Step 0 ∷ Step 0 ∷ Look 0 0 ∷ []

-- a page that breaks off at its 44th byte, and what comes behind that
abbrev pub broken_page : List Event
broken_page =
    Feed 0 (take 44 dot_file) ∷ Step 0 ∷ Step 0 ∷ End 0 file_end.Broken ∷ Step 0
    ∷ Feed 0 (drop 44 dot_file) ∷ End 0 file_end.Whole ∷ Step 0 ∷ Look 0 0 ∷ []
