-- What a core has decoded, in decisions: of the pages' own chunks, and of the files that were decoded for them, each once.
use Rattle.std.specs.Prelude.{ℕ, ◌≡◌, ◌+◌, ◌≤◌, true, List, length, map, replicate, sum_by, Option, Some, None, slice_get}
use Rattle.std.specs.List.{list_any}
use Rattle.djvu_base.specs.Library.{Library}
use Rattle.zp_table.specs.declared.rows.Row.{Row}
use Rattle.page_decoder.specs.PageRead.{Drawing}
use Rattle.page_decoder.specs.Libraries.{run, res_of, is_reached}
use Rattle.replay_core.specs.Machine.{PageState}

-- a page, by the number of its file, and the decisions of its own chunks so far
pub record PageCount : Type 0 where
  pub file : ℕ
  pub decisions : ℕ

abbrev pub files_of : List PageCount → List ℕ
files_of pages = map (λ page. page.file) pages

abbrev pub spent_on : Option ℕ → ℕ
spent_on None = 0
spent_on (Some decisions) = decisions

-- of each page, and of each file by its number whether it was decoded, and with how many decisions
pub record Counts : Type 0 where
  pub pages : List PageCount
  pub files : List (Option ℕ)

-- before anything is decoded
abbrev pub no_counts : ℕ → List ℕ → Counts
no_counts names files = record { pages = map (λ file. record { file = file; decisions = 0 }) files; files = replicate names None }

abbrev pub counted : Counts → ℕ
counted counts = sum_by (λ page. page.decisions) counts.pages + sum_by spent_on counts.files

abbrev pub decisions_by : Option Drawing → ℕ → ℕ
decisions_by (Some drawing) all = drawing.decisions
decisions_by None all = all

-- the decisions of a page's own chunks up to what its next step tells
abbrev pub step_decisions : List Row → Library → PageState → ℕ
step_decisions table library page =
    decisions_by (slice_get (run table library page.file).left.told.drawings page.drawn) (run table library page.file).left.told.decisions

-- nothing was decoded beyond what the pages of the library ask for
pub record CountsWithin (table : List Row) (library : Library) (counts : Counts) : Type 0 where
  pub places : length counts.files ≡ length library
  pub own : (number : ℕ) (page : PageCount) → slice_get counts.pages number ≡ Some page
      → page.decisions ≤ (run table library page.file).left.told.decisions
  pub reached : (file decisions : ℕ) → slice_get counts.files file ≡ Some (Some decisions)
      → list_any (is_reached table library file) (files_of counts.pages) ≡ true
  pub spent : (file decisions : ℕ) → slice_get counts.files file ≡ Some (Some decisions) → decisions ≤ (res_of table library file).decisions

-- and all of it was decoded
pub record CountsAll (table : List Row) (library : Library) (counts : Counts) : Type 0 where
  pub own : (number : ℕ) (page : PageCount) → slice_get counts.pages number ≡ Some page
      → page.decisions ≡ (run table library page.file).left.told.decisions
  pub reached : (file : ℕ) (it : Option ℕ) → slice_get counts.files file ≡ Some it
      → list_any (is_reached table library file) (files_of counts.pages) ≡ true → it ≡ Some (res_of table library file).decisions
