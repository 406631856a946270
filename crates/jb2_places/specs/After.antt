-- What `Places` keeps of the boxes that it placed.
use Rattle.std.specs.Prelude.{◌≡◌, ℕ, ◌+◌, ◌<◌, ◌^◌, ℤ, pos, neg_ℤ, ◌≤ℤ◌, List, [], ◌∷◌, length, All, FitsSigned, slice_index_or}
use Rattle.std.specs.Int.{w32}
use Rattle.jb2_places.specs.Place.{Placement, Placed, row_left, row_bottom, last_right, bottom_at, placed_boxes}

-- the six numbers by which the next box is placed
pub record Lead : Type 0 where
  pub row_left : ℤ
  pub row_bottom : ℤ
  pub last_right : ℤ
  pub bottoms : List ℤ

-- those of an image of this height with these boxes, the latest first
abbrev pub lead_of : ℕ → List Placed → Lead
lead_of image_height before = record {
  row_left = row_left before;
  row_bottom = row_bottom image_height before;
  last_right = last_right before;
  bottoms = bottom_at image_height before 0 ∷ bottom_at image_height before 1 ∷ bottom_at image_height before 2 ∷ [];
}

-- a width or height that a box may have
abbrev pub IsSize : ℤ → Type 0
IsSize size = (pos 0 ≤ℤ size) × (size ≤ℤ pos 65535)

-- a placement that a call can be given
pub record IsInput (box : Placement) : Type 0 where
  pub dx : FitsSigned w32 box.dx
  pub dy : FitsSigned w32 box.dy
  pub width : IsSize box.width
  pub height : IsSize box.height

-- these places come after these placements, in an image of this height
pub record IsAfter (image_height : ℕ) (earlier : List Placement) (places : Lead) : Type 0 where
  pub fits : image_height < 2 ^ 32
  pub inputs : All IsInput earlier
  pub lead : places ≡ lead_of image_height (placed_boxes image_height earlier)

-- so many boxes can be placed
abbrev pub call_limit : ℕ
call_limit = 1_048_576

-- these places come after fewer placements than the limit
abbrev pub HasRoom : Lead → Type 0
HasRoom places =
    (image_height : ℕ) × (earlier : List Placement) × IsAfter image_height earlier places × (length earlier < call_limit)

-- z is at most r from 0
pub record Within (r : ℕ) (z : ℤ) : Type 0 where
  pub low : neg_ℤ (pos r) ≤ℤ z
  pub high : z ≤ℤ pos r

-- the six numbers are at most r from 0
pub record LeadsWithin (r : ℕ) (lead : Lead) : Type 0 where
  pub left : Within r lead.row_left
  pub bottom : Within r lead.row_bottom
  pub right : Within r lead.last_right
  pub first : Within r (slice_index_or lead.bottoms 0 (pos 0))
  pub second : Within r (slice_index_or lead.bottoms 1 (pos 0))
  pub third : Within r (slice_index_or lead.bottoms 2 (pos 0))

-- how far the numbers can come in as many calls as there may be: each moves them by less than 2 ^ 32
abbrev pub far : ℕ
far = 0x10_0001_0000_0000

-- and how far a spot can lie from 0, with one placement more
abbrev pub spot_far : ℕ
spot_far = far + 0x2_0000_0000
