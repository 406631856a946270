-- What the statuses of a run say of its pages.
use Rattle.std.specs.Prelude.{ℕ, ◌≡◌, ◌<◌, ⊤, List, [], ◌∷◌, length, Some, slice_get}
use Rattle.djvu_base.specs.Library.{File, Library}
use Rattle.zp_table.specs.declared.rows.Row.{Row}
use Rattle.djvu_base.specs.Picture.{Picture}
use Rattle.iff_chunks.specs.Chunks.{FormEnd}
use Rattle.iff_chunks.specs.Ends.{file_end}
use Rattle.page_decoder.specs.Libraries.{Drawn, page_in}
use Rattle.viewer_run.specs.Plan.{Plan, Refuses, Draws, Lists}

-- the page of this number is drawn
abbrev pub PageIsDrawn : List Row → Library → ℕ → Type 0
PageIsDrawn rows library page = page < length library → (picture : Picture) × (page_in rows library page ≡ Drawn picture)

-- the file of the page of this number ends with its FORM
abbrev pub PageIsListed : Library → ℕ → Type 0
PageIsListed library page = (file : File) → slice_get library page ≡ Some file → file_end file.mark file.bytes ≡ FormEnd

abbrev pub AllPages : (ℕ → Type 0) → List ℕ → Type 0
AllPages IsShown [] = ⊤
AllPages IsShown (page ∷ pages) = IsShown page × AllPages IsShown pages

-- the run is accepted, and each page has a drawing, or each file ends with its FORM
abbrev pub AllShown : Library → Plan → Type 0
AllShown library (Refuses line) = ⊥
AllShown library (Draws rows pages) = AllPages (PageIsDrawn rows library) pages
AllShown library (Lists pages) = AllPages (PageIsListed library) pages

-- the run is refused
abbrev pub IsRefused : Plan → Type 0
IsRefused (Refuses line) = ⊤
IsRefused (Draws rows pages) = ⊥
IsRefused (Lists pages) = ⊥
