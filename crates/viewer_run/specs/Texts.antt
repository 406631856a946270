-- What is put for a page that is drawn.
use Rattle.std.specs.Prelude.{ℕ, Bool, true, false, ◌++◌, ◌||◌, List, []}
use Rattle.std.specs.List.{flat_map}
use Rattle.djvu_base.specs.Announced.{Announced}
use Rattle.djvu_base.specs.Library.{Library}
use Rattle.djvu_outside.specs.Puts.{Put, to_out, to_report}
use Rattle.zp_table.specs.declared.rows.Row.{Row}
use Rattle.page_decoder.specs.Libraries.{names_in, Shown, Drawn, Faulty, Unknown, page_in}
use Rattle.replay_core.specs.Machine.{page_notices}
use Rattle.viewer_words.specs.Lines.{name_at, notice_line, fault_line}
use Rattle.viewer_run.specs.Rasters.{raster_text}

-- what is put into the two sinks, and whether a page was refused
pub record Texts : Type 0 where
  pub puts : List Put
  pub refused : Bool

abbrev pub no_texts : Texts
no_texts = record { puts = []; refused = false }

abbrev pub joined : Texts → Texts → Texts
joined before after = record { puts = before.puts ++ after.puts; refused = before.refused || after.refused }

-- a line for each notice: after how many chunks, and the sum of its drawing's samples
abbrev pub lines_of : List ℕ → List Announced → List ℕ
lines_of name notices = flat_map (λ notice. notice_line name notice.chunks notice.sum) notices

-- a page of this name with these lines of notices: its raster goes out after them, and the line of its fault too, which names the fault's
-- file. Where it isn't known what the page is, nothing more is put
abbrev pub texts_at : List (List ℕ) → List ℕ → List ℕ → Shown → Texts
texts_at names name lines (Drawn picture) = record { puts = to_report lines ++ to_out (raster_text picture); refused = false }
texts_at names name lines (Faulty fault) = record { puts = to_report (lines ++ fault_line name fault names); refused = true }
texts_at names name lines Unknown = record { puts = to_report lines; refused = false }

-- a page of this name among the names of a library, which is drawn with this state table
abbrev pub texts_in : List Row → Library → ℕ → List (List ℕ) → List ℕ → Texts
texts_in rows library page names name = texts_at names name (lines_of name (page_notices rows library page)) (page_in rows library page)

-- a page of a library, by its number there
abbrev pub texts_of_page : List Row → Library → ℕ → Texts
texts_of_page rows library page = texts_in rows library page (names_in library) (name_at (names_in library) page)
