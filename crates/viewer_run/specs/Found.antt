-- What a run of a core found in a page, and what is put for it.
use Rattle.std.specs.Prelude.{ℕ, ◌<◌, ⊤, List, [], length, Option, Some, None}
use Rattle.djvu_base.specs.declared.faults.Fault.{Fault}
use Rattle.layer_compose.specs.declared.layers.Layers.{Layers}
use Rattle.layer_compose.specs.Drawing.{raster_of}
use Rattle.page_decoder.specs.Libraries.{Shown, Faulty, drawn}
use Rattle.viewer_words.specs.Lines.{fault_line}
use Rattle.viewer_run.specs.Rasters.{raster_text}

-- the fault of a page, if it has one, stands in one of these files
abbrev pub FaultFits : List (List ℕ) → Option Fault → Type 0
FaultFits names None = ⊤
FaultFits names (Some fault) = fault.place.file < length names

abbrev pub fault_text : List (List ℕ) → List ℕ → Option Fault → List ℕ
fault_text names name None = []
fault_text names name (Some fault) = fault_line name fault names

-- what the page is, by that and by its layers
abbrev pub shown_found : Option Fault → Option Layers → Shown
shown_found None layers = drawn layers
shown_found (Some fault) layers = Faulty fault

-- the raster of a page without a fault
abbrev pub raster_found : Option Fault → Option Layers → List ℕ
raster_found None None = []
raster_found None (Some layers) = raster_text (raster_of layers)
raster_found (Some fault) layers = []
