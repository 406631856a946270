-- Small pages, and what is drawn of them.
use Rattle.std.specs.Prelude.{ℕ, zero, suc, ◌%◌, ◌==◌, true, false, List, [], ◌∷◌, ◌++◌, Some, None}
use Rattle.djvu_base.specs.Picture.{Picture}
use Rattle.djvu_base.specs.declared.turns.Turn.{Turn}
use Rattle.djvu_base.specs.declared.turns.Turn.TheVariants.{Upright}
use Rattle.bit_plane.specs.Pixels.{pixels_where}
use Rattle.layer_compose.specs.declared.layers.Layers.{Layers}

-- a page of this size that nothing is known of
abbrev pub blank_page : ℕ → ℕ → Layers
blank_page width height = record { width = width; height = height; turn = Upright; mask = None; front = None; back = None }

-- pixels whose three samples are equal
abbrev pub greys : List ℕ → List ℕ
greys [] = []
greys (shade ∷ shades) = shade ∷ shade ∷ shade ∷ greys shades

-- a picture of these greys, rows from the top
abbrev pub grey_picture : ℕ → ℕ → List ℕ → Picture
grey_picture width height shades = record { width = width; height = height; samples = greys shades }

-- ---- masks

-- 1 by 1, black
abbrev pub dot : Layers
dot = record (blank_page 1 1) { mask = Some (record { width = 1; height = 1; black = true ∷ [] }) }

-- 2 by 1, the left pixel black
abbrev pub pair : Layers
pair = record (blank_page 2 1) { mask = Some (record { width = 2; height = 1; black = true ∷ false ∷ [] }) }

-- the same, turned
abbrev pub pair_turned : Turn → Layers
pair_turned turn = record pair { turn = turn }

-- 3 by 2: the left pixel of the bottom row is black, and so are the two others of the top row
abbrev pub corners : Layers
corners = record (blank_page 3 2) {
  mask = Some (record {
    width = 3;
    height = 2;
    black = true ∷ false ∷ false
        ∷ false ∷ true ∷ true ∷ [];
  });
}

abbrev pub corners_turned : Turn → Layers
corners_turned turn = record corners { turn = turn }

-- 2 by 2, without a mask
abbrev pub bare : Layers
bare = blank_page 2 2

-- 130 by 1, every fourth pixel black, from the first on
abbrev pub fence : Layers
fence = record (blank_page 130 1) { mask = Some (pixels_where 130 1 (λ x y. x % 4 == 0)) }

abbrev pub fence_turned : Turn → Layers
fence_turned turn = record fence { turn = turn }

-- so many times a black and a white pixel
abbrev pub stripes : ℕ → List ℕ
stripes zero = []
stripes (suc n) = 0 ∷ 0 ∷ 0 ∷ 255 ∷ 255 ∷ 255 ∷ stripes n

-- every second pixel of the fence
abbrev pub fence_seen_by_two : Picture
fence_seen_by_two = record { width = 65; height = 1; samples = stripes 32 ++ (0 ∷ 0 ∷ 0 ∷ []) }

-- ---- colours

-- 1 by 1, a background of one grey pixel
abbrev pub one_grey : ℕ → Layers
one_grey shade = record (blank_page 1 1) { back = Some (grey_picture 1 1 (shade ∷ [])) }

-- 2 by 1, a black background
abbrev pub dark_pair : Layers
dark_pair = record (blank_page 2 1) { back = Some (grey_picture 2 1 (0 ∷ 0 ∷ [])) }

-- the dot, with a foreground of one grey pixel
abbrev pub grey_dot : Layers
grey_dot = record dot { front = Some (grey_picture 1 1 (0x7F ∷ [])) }

-- 3 by 3: a background at reduction 2, a foreground at reduction 3, and a mask of the left pixel of the bottom row and the
-- right one of the top row
abbrev pub coloured : Layers
coloured = record {
  width = 3;
  height = 3;
  turn = Upright;
  mask = Some (record {
    width = 3;
    height = 3;
    black = true ∷ false ∷ false
        ∷ false ∷ false ∷ false
        ∷ false ∷ false ∷ true ∷ [];
  });
  front = Some (record { width = 1; height = 1; samples = 1 ∷ 2 ∷ 3 ∷ [] });
  back = Some (grey_picture 2 2 (10 ∷ 20
      ∷ 30 ∷ 40 ∷ []));
}

abbrev pub coloured_turned : Turn → Layers
coloured_turned turn = record coloured { turn = turn }
