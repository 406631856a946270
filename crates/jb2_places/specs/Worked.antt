-- A line of five boxes in an image of height 100, the first box of the next line, and one further box.
use Rattle.std.specs.Prelude.{ℕ, pos, negsuc, true, false, List, [], ◌∷◌, take}
use Rattle.jb2_places.specs.declared.places.Spot.{Spot}
use Rattle.jb2_places.specs.Place.{Placement, place}

abbrev pub first : Placement
first = record { new_row = true; dx = pos 1; dy = pos 0; width = pos 4; height = pos 10 }

-- 3 below the first
abbrev pub second : Placement
second = record { new_row = false; dx = pos 2; dy = negsuc 2; width = pos 6; height = pos 8 }

-- 5 above the two latest of three bottoms that are all the first's, but one
abbrev pub third : Placement
third = record { new_row = false; dx = pos 1; dy = pos 5; width = pos 3; height = pos 5 }

-- to the left, over the third
abbrev pub fourth : Placement
fourth = record { new_row = false; dx = negsuc 1; dy = pos 9; width = pos 2; height = pos 2 }

abbrev pub fifth : Placement
fifth = record { new_row = false; dx = pos 3; dy = pos 1; width = pos 1; height = pos 7 }

abbrev pub next_line : Placement
next_line = record { new_row = true; dx = pos 0; dy = negsuc 4; width = pos 7; height = pos 9 }

abbrev pub last : Placement
last = record { new_row = false; dx = pos 1; dy = pos 2; width = pos 5; height = pos 5 }

abbrev pub page : List Placement
page = first ∷ second ∷ third ∷ fourth ∷ fifth ∷ next_line ∷ last ∷ []

-- the spot of a box of the page after the n before it
abbrev pub spot_after : ℕ → Placement → Spot
spot_after n box = place 100 (take n page) box
