-- Small planes, row after row from the bottom.
use Rattle.std.specs.Prelude.{true, false, [], ◌∷◌, pos, ◌-ℤ◌}
use Rattle.bit_plane.specs.Pixels.{Pixels, blank, painted}
use Rattle.bit_plane.specs.Ink.{ink_box_of}

-- 4 by 3: two black pixels in the middle row
abbrev pub dash : Pixels
dash = record {
  width = 4;
  height = 3;
  black = false ∷ false ∷ false ∷ false
      ∷ false ∷ true ∷ true ∷ false
      ∷ false ∷ false ∷ false ∷ false ∷ [];
}

-- 3 by 3: a pixel at the right, one at the left above it, and one at the top
abbrev pub corner : Pixels
corner = record {
  width = 3;
  height = 3;
  black = false ∷ false ∷ true
      ∷ true ∷ false ∷ false
      ∷ false ∷ true ∷ false ∷ [];
}

-- 1 by 4: the two pixels at the top
abbrev pub post : Pixels
post = record { width = 1; height = 4; black = false ∷ false ∷ true ∷ true ∷ [] }

-- the dash, painted on a plane of 6 by 4 so that its ink box begins at (3, 2)
abbrev pub copy : Pixels
copy = painted (blank 6 4) dash (pos 3 -ℤ (ink_box_of dash).left) (pos 2 -ℤ (ink_box_of dash).bottom)
