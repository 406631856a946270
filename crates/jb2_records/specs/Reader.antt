-- What readers of records are given: the dictionary in force, and the size of a mask.
use Rattle.std.specs.Prelude.{ℕ, ◌*◌, ◌≤◌, List, [], Option, Some, None}
use Rattle.std.specs.Arc.{arc_value}
use Rattle.std.specs.declared.sync.Arc.{Arc}
use Rattle.bit_plane.specs.Pixels.{Pixels, area_limit, side_limit}

-- the shapes of the dictionary in force
abbrev pub inherited_of : {Z : Type 0} → Option (Arc (List Pixels) Z) → List Pixels
inherited_of None = []
inherited_of (Some dictionary) = arc_value dictionary

-- a size that a mask may have
pub record IsMaskSize (width height : ℕ) : Type 0 where
  pub some_columns : 1 ≤ width
  pub most_columns : width ≤ side_limit
  pub some_rows : 1 ≤ height
  pub most_rows : height ≤ side_limit
  pub area : width * height ≤ area_limit
