-- Pages over a library: what included files give there, the reading of a page, its drawings, and the work of pages.
use Rattle.std.specs.Prelude.{ℕ, zero, suc, ◌≡◌, ◌+◌, ◌==◌, Bool, List, [], ◌∷◌, length, map, sum_by, Option, Some, None, ⊤, ◌⊎◌, slice_get, option_map, if◌then◌else◌}
use Rattle.std.specs.List.{list_any, range_with_len}
use Rattle.djvu_base.specs.Library.{Mark, Open, File, Library}
use Rattle.djvu_base.specs.Picture.{Picture}
use Rattle.djvu_base.specs.declared.faults.Fault.{Fault}
use Rattle.zp_table.specs.declared.rows.Row.{Row}
use Rattle.layer_compose.specs.declared.layers.Layers.{Layers}
use Rattle.layer_compose.specs.Drawing.{raster_of}
use Rattle.include_graph.specs.declared.outline.Outline.{Outline}
use Rattle.include_graph.specs.declared.verdicts.Verdict.{Verdict}
use Rattle.include_graph.specs.declared.verdicts.Verdict.TheVariants as verdict
use Rattle.include_graph.specs.Outlines.{outline_of}
use Rattle.include_graph.specs.Verdicts.{Graph, is_among, verdict_of}
use Rattle.page_decoder.specs.Results.{Result, Nothing}
use Rattle.page_decoder.specs.Given.{Role, Page, Included, Given, Front}
use Rattle.page_decoder.specs.PageRead.{Drawing, last_layers, drawings_within, Ending, Finished, Refused, NeedBytes, NeedOutline, NeedFile, PageRead}
use Rattle.page_decoder.specs.Read.{read, FileDone, decode}

-- ---- what is given in a library

abbrev pub names_in : Library → List (List ℕ)
names_in library = map (λ file. file.name) library

abbrev pub outline_in_file : Option File → Option Outline
outline_in_file None = None
outline_in_file (Some file) = outline_of file.mark file.bytes

-- the outlines that are known there, by the numbers of the files
abbrev pub outlines_in : Library → ℕ → Option Outline
outlines_in library file = outline_in_file (slice_get library file)

abbrev pub graph_of : Library → Graph
graph_of library = record { names = names_in library; outlines = outlines_in library }

abbrev pub bytes_in : Option File → List ℕ
bytes_in None = []
bytes_in (Some file) = file.bytes

abbrev pub mark_in : Option File → Mark
mark_in None = Open
mark_in (Some file) = file.mark

-- a file of the library in this role, where included files give these results
abbrev pub given_in : Role → List Row → Library → ℕ → (ℕ → Option Result) → Given
given_in role table library file results = record {
  home = record { role = role; table = table; names = names_in library; file = file };
  known = record { outlines = outlines_in library; results = results };
  bytes = bytes_in (slice_get library file);
  mark = mark_in (slice_get library file);
}

-- ---- included files

abbrev pub nothing_done : FileDone
nothing_done = record { result = Nothing; decisions = 0 }

-- the decoding of a file, over that of its includes, at most so many files deep
abbrev pub res : List Row → Library → ℕ → ℕ → FileDone
res table library zero file = nothing_done
res table library (suc depth) file = decode (given_in Included table library file (λ below. Some (res table library depth below).result))

-- the decoding of a file. It means something where the file's verdict is a list, which is no longer than there are files
abbrev pub res_of : List Row → Library → ℕ → FileDone
res_of table library file = res table library (suc (length library)) file

abbrev pub result_where : Verdict → FileDone → Option Result
result_where (verdict.Files files) done = Some done.result
result_where (verdict.NeedOutline file) done = None
result_where (verdict.Refused fault) done = None

-- what a file gives, where its verdict is a list
abbrev pub results_in : List Row → Library → ℕ → Option Result
results_in table library file = result_where (verdict_of (graph_of library) file) (res_of table library file)

-- ---- pages

abbrev pub run_given : List Row → Library → ℕ → Given
run_given table library page = given_in Page table library page (results_in table library)

-- where an outline isn't known, its file is needed
abbrev pub run_end : Ending → Ending
run_end Finished = Finished
run_end (Refused fault) = Refused fault
run_end NeedBytes = NeedBytes
run_end (NeedOutline file) = NeedFile file
run_end (NeedFile file) = NeedFile file

-- the reading of a page of a library
abbrev pub run : List Row → Library → ℕ → PageRead
run table library page = record { left = (read (run_given table library page)).left; end = run_end (read (run_given table library page)).end }

-- the drawing that is told behind so many chunks
abbrev pub drawing_at : ℕ → List Drawing → Option Picture
drawing_at chunks [] = None
drawing_at chunks (drawing ∷ drawings) = if drawing.chunks == chunks then Some (raster_of drawing.layers) else drawing_at chunks drawings

-- the drawing of the layers that the first so many chunks of a page leave: its last drawing behind no more of them
abbrev pub draw : List Row → Library → ℕ → ℕ → Option Picture
draw table library page chunks = option_map raster_of (last_layers (drawings_within chunks (run table library page).left.told.drawings))

-- what a page is, as far as that is known
pub data Shown : Type 0 where
  -- its drawing behind the last chunk
  Drawn : Picture → Shown
  -- its fault
  Faulty : Fault → Shown
  -- it needs bytes or other files
  Unknown : Shown

abbrev pub drawn : Option Layers → Shown
drawn None = Unknown
drawn (Some layers) = Drawn (raster_of layers)

abbrev pub shown_by : Ending → Option Layers → Shown
shown_by Finished layers = drawn layers
shown_by (Refused fault) layers = Faulty fault
shown_by NeedBytes layers = Unknown
shown_by (NeedOutline file) layers = Unknown
shown_by (NeedFile file) layers = Unknown

abbrev pub page_in : List Row → Library → ℕ → Shown
page_in table library page = shown_by (run table library page).end (run table library page).left.decoded.layers

-- ---- work

-- whether the reading of a page reaches a file
abbrev pub is_reached : List Row → Library → ℕ → ℕ → Bool
is_reached table library file page = is_among file (run table library page).left.told.reached

-- the decisions of an included file, where one of these pages reaches it
abbrev pub file_work : List Row → Library → List ℕ → ℕ → ℕ
file_work table library pages file = if list_any (is_reached table library file) pages then (res_of table library file).decisions else 0

-- the work of pages of a library: the decisions of their own chunks, and those of each file that they reach, once
abbrev pub work_of : List Row → Library → List ℕ → ℕ
work_of table library pages =
    sum_by (λ page. (run table library page).left.told.decisions) pages + sum_by (file_work table library pages) (range_with_len 0 (length library))

-- ---- libraries that go on

-- a file is the same, or more bytes of it came, or its end
pub record FileGoesOn (before after : File) : Type 0 where
  pub name : before.name ≡ after.name
  pub bytes : ((before.mark ≡ Open) × Front before.bytes after.bytes) ⊎ ((before.bytes ≡ after.bytes) × (before.mark ≡ after.mark))

-- file by file
abbrev pub LibraryGoesOn : Library → Library → Type 0
LibraryGoesOn [] [] = ⊤
LibraryGoesOn (before ∷ library) (after ∷ later) = FileGoesOn before after × LibraryGoesOn library later
LibraryGoesOn [] (after ∷ later) = ⊥
LibraryGoesOn (before ∷ library) [] = ⊥
