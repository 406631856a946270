-- A page that isn't refused has the raster of its last drawing.
use Rattle.std.proofs.Common.{◌≡◌, ◌≢◌, ◌++◌, ◌<◌, ℕ, false, Option, Some, None, List, length, refl, ◌∙◌, sym}
use Rattle.std.proofs.lemmas.Bool.{true≢false}
use Rattle.djvu_base.specs.Library.{Library}
use Rattle.djvu_outside.specs.Puts.{to_out, to_report}
use Rattle.zp_table.specs.declared.rows.Row.{Row}
use Rattle.layer_compose.specs.declared.layers.Layers.{Layers}
use Rattle.layer_compose.specs.Drawing.{raster_of}
use Rattle.page_decoder.specs.Given.{Given}
use Rattle.page_decoder.specs.PageRead.{Ending, Finished, Refused, NeedBytes, NeedOutline, NeedFile, last_layers}
use Rattle.page_decoder.specs.Read.{read}
use Rattle.page_decoder.specs.Libraries.{Unknown, Drawn, names_in, shown_by, run, run_given, page_in}
use Rattle.replay_core.specs.Machine.{page_notices, AllClosed}
use Rattle.viewer_words.specs.Lines.{name_at}
use Rattle.viewer_run.specs.Rasters.{raster_text}
use Rattle.viewer_run.specs.Texts.{lines_of, texts_at, texts_of_page}

-- what is put for a page that isn't refused, and of which it is known what it is
pub record HasRaster (names : List (List ℕ)) (name lines : List ℕ) (end : Ending) (layers : Option Layers) : Type 0 where
  pub last : Layers
  pub layers_so : layers ≡ Some last
  pub shown_so : shown_by end layers ≡ Drawn (raster_of last)
  pub puts_so : (texts_at names name lines (shown_by end layers)).puts ≡ to_report lines ++ to_out (raster_text (raster_of last))

pub raster_by : (names : List (List ℕ)) (name lines : List ℕ) (end : Ending) (layers : Option Layers) → shown_by end layers ≢ Unknown
    → (texts_at names name lines (shown_by end layers)).refused ≡ false → HasRaster names name lines end layers
raster_by names name lines Finished None known refused = absurd (known refl)
raster_by names name lines Finished (Some layers) known refused = record { last = layers; layers_so = refl; shown_so = refl; puts_so = refl }
raster_by names name lines (Refused fault) layers known refused = absurd (true≢false refused)
raster_by names name lines NeedBytes layers known refused = absurd (known refl)
raster_by names name lines (NeedOutline file) layers known refused = absurd (known refl)
raster_by names name lines (NeedFile file) layers known refused = absurd (known refl)

pub raster_there : ((rows : List Row) (library : Library) (page : ℕ) → page < length library → AllClosed library → page_in rows library page ≢ Unknown)
    → ((given : Given) → (read given).left.decoded.layers ≡ last_layers (read given).left.told.drawings)
    → (rows : List Row) (library : Library) (page : ℕ) → page < length library → AllClosed library → (texts_of_page rows library page).refused ≡ false
    → (layers : Layers) × (last_layers (run rows library page).left.told.drawings ≡ Some layers) × (page_in rows library page ≡ Drawn (raster_of layers))
    × ((texts_of_page rows library page).puts
    ≡ to_report (lines_of (name_at (names_in library) page) (page_notices rows library page)) ++ to_out (raster_text (raster_of layers)))
raster_there known last rows library page inside closed refused =
    let names = names_in library in
    let there =
    raster_by names (name_at names page) (lines_of (name_at names page) (page_notices rows library page)) (run rows library page).end
    (run rows library page).left.decoded.layers (known rows library page inside closed) refused in
    (there.last, sym (last (run_given rows library page)) ∙ there.layers_so, there.shown_so, there.puts_so)
