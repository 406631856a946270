-- What the code keeps of complete chunks, and how it stands to what they leave.
use Rattle.std.specs.Prelude.{◌≡◌, ℕ, ◌≤◌, List, [], Option, Some, None, ⊤, IsSome}
use Rattle.zp_table.specs.declared.rows.Row.{Row}
use Rattle.bit_plane.specs.Pixels.{Pixels}
use Rattle.iw44_image.specs.Layer.{Data}
use Rattle.layer_compose.specs.declared.layers.Layers.{Layers}
use Rattle.page_decoder.specs.Kinds.{ChunkKind}
use Rattle.page_decoder.specs.Kinds as kind
use Rattle.page_decoder.specs.PageRead.{Decoded}
use Rattle.page_decoder.specs.ChunkData.{back_limit}
use Rattle.page_decoder.specs.Found.{CanDrawLast}
use Rattle.page_decoder.specs.LayerState.{LayerState, Rests}

-- the page's layers, the reader of its background, and the file's own dictionary
pub record Keeping : Type 0 where
  pub layers : Option Layers
  pub back : Option LayerState
  pub own : Option (List Pixels)

-- a reader stands behind these chunks of the page's background
pub record IsBehind (table : List Row) (layers : Layers) (chunks : List Data) (it : LayerState) : Type 0 where
  pub table_is : it.image.zp.table ≡ table
  pub limit_is : it.image.limit ≡ back_limit
  pub page_is : it.page ≡ (layers.width, layers.height)
  pub rests : Rests chunks it

-- a reader stands behind these chunks of the background; there is none before the first one
abbrev pub Background : List Row → Option Layers → List Data → Option LayerState → Type 0
Background table layers chunks None = chunks ≡ []
Background table None chunks (Some it) = ⊥
Background table (Some layers) chunks (Some it) = IsBehind table layers chunks it

-- what is kept is what complete chunks leave, but for includes
pub record KeepsOf (table : List Row) (layers : Option Layers) (chunks : List Data) (own : Option (List Pixels)) (kept : Keeping) : Type 0 where
  pub layers_are : kept.layers ≡ layers
  pub own_is : kept.own ≡ own
  pub background : Background table layers chunks kept.back

abbrev pub Keeps : List Row → Decoded → Keeping → Type 0
Keeps table decoded kept = KeepsOf table decoded.layers decoded.back decoded.own kept

-- a chunk of this kind and size can begin on a page with these layers: a page has one size, which stands before all that lies on it
abbrev pub IsReady : ChunkKind → ℕ → Option Layers → Type 0
IsReady kind.Info size layers = (layers ≡ None) × (5 ≤ size)
IsReady kind.Include size layers = ⊤
IsReady kind.Dictionary size layers = ⊤
IsReady kind.Mask size layers = IsSome layers
IsReady kind.Front size layers = IsSome layers
IsReady kind.Back size layers = IsSome layers
IsReady kind.Refused size layers = ⊤
IsReady kind.Passed size layers = ⊤

-- ---- for the code's own functions

-- no chunk of the background is open
abbrev pub IsClosed : Option LayerState → Type 0
IsClosed None = ⊤
IsClosed (Some it) = it.image.to_come ≡ None

-- what is kept can be drawn
pub record IsKept (kept : Keeping) : Type 0 where
  pub drawable : CanDrawLast kept.layers
  pub closed : IsClosed kept.back
