-- Places of boxes in an image, whose columns count from 1 on the left and whose rows count from 1 at the bottom.
use Rattle.std.specs.Prelude.{ℕ, ℤ, pos, ◌+ℤ◌, ◌-ℤ◌, Bool, List, [], ◌∷◌, fold, slice_index_or, if◌then◌else◌}
use Rattle.std.specs.Int.{int_min, int_max}
use Rattle.jb2_places.specs.declared.places.Spot.{Spot}

-- a box that is to be placed, as the first of a new row or on the same row: dx to the right and dy up from where the
-- boxes before it lead
pub record Placement : Type 0 where
  pub new_row : Bool
  pub dx : ℤ
  pub dy : ℤ
  pub width : ℤ
  pub height : ℤ

-- a box that was placed: its first and last column, and its lowest row
pub record Placed : Type 0 where
  pub new_row : Bool
  pub left : ℤ
  pub right : ℤ
  pub bottom : ℤ

-- In what follows a list of placed boxes has the latest first.

-- the left side of the first box of the latest row, or 0 where there is none
abbrev pub row_left : List Placed → ℤ
row_left [] = pos 0
row_left (box ∷ before) = if box.new_row then box.left else row_left before

-- the bottom of the first box of the latest row, or the image's height where there is none
abbrev pub row_bottom : ℕ → List Placed → ℤ
row_bottom image_height [] = pos image_height
row_bottom image_height (box ∷ before) = if box.new_row then box.bottom else row_bottom image_height before

-- the right side of the latest box, or 0 where there is none
abbrev pub last_right : List Placed → ℤ
last_right [] = pos 0
last_right (box ∷ before) = box.right

-- the bottoms, that of the first box of a row thrice
abbrev pub bottoms : List Placed → List ℤ
bottoms [] = []
bottoms (box ∷ before) =
    if box.new_row then box.bottom ∷ box.bottom ∷ box.bottom ∷ bottoms before else box.bottom ∷ bottoms before

-- the n-th latest bottom, from 0, or the image's height where there is none
abbrev pub bottom_at : ℕ → List Placed → ℕ → ℤ
bottom_at image_height before n = slice_index_or (bottoms before) n (pos image_height)

-- the middle one of three numbers
abbrev pub median : ℤ → ℤ → ℤ → ℤ
median a b c = int_max (int_min a b) (int_min (int_max a b) c)

-- the baseline of the latest row: the median of the three latest bottoms
abbrev pub baseline : ℕ → List Placed → ℤ
baseline image_height before =
    median (bottom_at image_height before 0) (bottom_at image_height before 1) (bottom_at image_height before 2)

-- a box of this width with its left side and its bottom there
abbrev pub placed_at : Bool → ℤ → ℤ → ℤ → Placed
placed_at new_row left bottom width = record { new_row = new_row; left = left; right = left +ℤ width -ℤ pos 1; bottom = bottom }

-- where a box comes to stand: on a new row its top is dy above the bottom of the row before, on the same row its bottom
-- is dy above the baseline
abbrev pub placed : ℕ → List Placed → Placement → Placed
placed image_height before box =
    if box.new_row
    then placed_at box.new_row (row_left before +ℤ box.dx) (row_bottom image_height before +ℤ box.dy -ℤ box.height +ℤ pos 1) box.width
    else placed_at box.new_row (last_right before +ℤ box.dx) (baseline image_height before +ℤ box.dy) box.width

-- where all the boxes of a list stand, the list in the order in which they are placed
abbrev pub placed_boxes : ℕ → List Placement → List Placed
placed_boxes image_height boxes = fold (λ before box. placed image_height before box ∷ before) [] boxes

-- a left side and a bottom, counted from 0
abbrev pub spot_at : ℤ → ℤ → Spot
spot_at left bottom = record { left = left -ℤ pos 1; bottom = bottom -ℤ pos 1 }

-- the spot of a box after these earlier ones
abbrev pub place : ℕ → List Placement → Placement → Spot
place image_height earlier box =
    let there = placed image_height (placed_boxes image_height earlier) box in
    spot_at there.left there.bottom

-- the spot of a box whose left side and top are given
abbrev pub absolute_place : ℤ → ℤ → ℤ → Spot
absolute_place left top height = spot_at left (top -ℤ height +ℤ pos 1)
