-- What the reading of a file comes to.
use Rattle.std.specs.Prelude.{ℕ, ◌<◌, ◌≤◌, nat_le, List, [], ◌∷◌, map, Option, Some, None, ⊤}
use Rattle.std.specs.List.{filter}
use Rattle.djvu_base.specs.Announced.{Announced}
use Rattle.djvu_base.specs.declared.faults.Fault.{Fault}
use Rattle.bit_plane.specs.Pixels.{Pixels}
use Rattle.layer_compose.specs.declared.layers.Layers.{Layers}
use Rattle.layer_compose.specs.Drawing.{sum_of, preview_of}
use Rattle.iw44_image.specs.Layer.{Data}

-- a drawing: after how many complete chunks of the page, how many decisions these had, and of which layers
pub record Drawing : Type 0 where
  pub chunks : ℕ
  pub decisions : ℕ
  pub layers : Layers

-- what is told of a drawing
abbrev pub notice_of : Drawing → Announced
notice_of drawing = record { chunks = drawing.chunks; sum = sum_of drawing.layers; preview = preview_of drawing.layers }

-- the layers of the last drawing
abbrev pub last_layers : List Drawing → Option Layers
last_layers [] = None
last_layers (drawing ∷ []) = Some drawing.layers
last_layers (drawing ∷ next ∷ drawings) = last_layers (next ∷ drawings)

-- the drawings behind at most so many chunks
abbrev pub drawings_within : ℕ → List Drawing → List Drawing
drawings_within chunks drawings = filter (λ drawing. nat_le drawing.chunks chunks) drawings

-- each drawing stands behind more chunks than the one before it, and behind no fewer decisions; the first behind more chunks than these,
-- and behind no fewer decisions than these
abbrev pub AscendFrom : ℕ → ℕ → List Drawing → Type 0
AscendFrom chunks decisions [] = ⊤
AscendFrom chunks decisions (drawing ∷ drawings) =
    (chunks < drawing.chunks) × (decisions ≤ drawing.decisions) × AscendFrom drawing.chunks drawing.decisions drawings

-- why a reading ends
pub data Ending : Type 0 where
  -- the FORM has ended, and every include was resolved
  Finished : Ending
  -- at the first fault
  Refused : Fault → Ending
  -- more bytes may come
  NeedBytes : Ending
  -- an include is resolved, and this file's outline isn't known, or what it gives
  NeedOutline : ℕ → Ending
  NeedFile : ℕ → Ending

-- what a reading told so far: its drawings, the decisions of the file's own chunks, and the files that its includes came to, in order
pub record Told : Type 0 where
  pub drawings : List Drawing
  pub decisions : ℕ
  pub reached : List ℕ

abbrev pub notices_of : Told → List Announced
notices_of told = map notice_of told.drawings

-- an include that was read and isn't resolved yet: the name that it holds, and where its chunk begins
pub record Include : Type 0 where
  pub name : List ℕ
  pub offset : ℕ

-- what complete chunks leave to later ones: the page's layers, the chunks of its background, its own dictionary, the first one that
-- its includes gave, and the includes that aren't resolved yet
pub record Decoded : Type 0 where
  pub layers : Option Layers
  pub back : List Data
  pub own : Option (List Pixels)
  pub inherited : Option (List Pixels)
  pub pending : List Include

-- what was read so far leaves: how many chunks are complete, what they leave, and what was told
pub record Left : Type 0 where
  pub chunks : ℕ
  pub decoded : Decoded
  pub told : Told

-- a reading: what it leaves where it ends, and why it ends there
pub record PageRead : Type 0 where
  pub left : Left
  pub end : Ending

abbrev pub or_else : Option (List Pixels) → Option (List Pixels) → Option (List Pixels)
or_else (Some shapes) other = Some shapes
or_else None other = other

-- the dictionary in force: the file's own, or else the first one of its includes
abbrev pub in_force : Decoded → Option (List Pixels)
in_force decoded = or_else decoded.own decoded.inherited

abbrev pub nothing_decoded : Decoded
nothing_decoded = record { layers = None; back = []; own = None; inherited = None; pending = [] }

-- before the first byte
abbrev pub at_start : Left
at_start = record { chunks = 0; decoded = nothing_decoded; told = record { drawings = []; decisions = 0; reached = [] } }
