-- What is put for a page, by its fault and its layers.
use Rattle.std.proofs.Common.{◌≡◌, Option, Some, None, List, ℕ, [], ◌++◌, ap, ◌∙◌}
use Rattle.std.proofs.lemmas.List.{append-nil}
use Rattle.djvu_base.specs.declared.faults.Fault.{Fault}
use Rattle.djvu_outside.specs.Puts.{to_out, to_report}
use Rattle.layer_compose.specs.declared.layers.Layers.{Layers}
use Rattle.layer_compose.specs.Drawing.{raster_of}
use Rattle.viewer_words.specs.Lines.{fault_line}
use Rattle.viewer_run.specs.Found.{fault_text, shown_found, raster_found}
use Rattle.viewer_run.specs.Rasters.{raster_text}
use Rattle.viewer_run.specs.Texts.{texts_at}

pub puts_found : (names : List (List ℕ)) (name lines : List ℕ) (fault : Option Fault) (layers : Option Layers)
    → (to_report (lines ++ fault_text names name fault) ++ to_out (raster_found fault layers))
    ≡ (texts_at names name lines (shown_found fault layers)).puts
puts_found names name lines None None = append-nil (to_report (lines ++ [])) ∙ ap to_report (append-nil lines)
puts_found names name lines None (Some layers) = ap (λ l. to_report l ++ to_out (raster_text (raster_of layers))) (append-nil lines)
puts_found names name lines (Some fault) layers = append-nil (to_report (lines ++ fault_line name fault names))
