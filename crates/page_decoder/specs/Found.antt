-- Layers of a page that can be drawn.
use Rattle.std.specs.Prelude.{◌<◌, ◌≤◌, ⊤, Option, Some, None}
use Rattle.layer_compose.specs.declared.layers.Layers.{Layers}
use Rattle.layer_compose.specs.Drawing.{IsDrawable}

-- layers of a page that can be drawn, with sides from 1 to 65,535 pixels
pub record CanDraw (layers : Layers) : Type 0 where
  pub wide : 0 < layers.width
  pub high : 0 < layers.height
  pub most_columns : layers.width ≤ 65535
  pub most_rows : layers.height ≤ 65535
  pub drawable : IsDrawable layers

abbrev pub CanDrawLast : Option Layers → Type 0
CanDrawLast None = ⊤
CanDrawLast (Some layers) = CanDraw layers
