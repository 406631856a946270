-- The limits of a chunk of shapes and of what it draws.
use Rattle.std.specs.Prelude.{ℕ}

-- the most shapes of a chunk, those that it inherits among them
abbrev pub shape_limit : ℕ
shape_limit = 65_536

-- the most pixels of the shapes that a dictionary brings; a mask has the limit of a plane's area
abbrev pub dictionary_pixel_limit : ℕ
dictionary_pixel_limit = 16_777_216

-- the most placed shapes, and the most pixels in them
abbrev pub placed_limit : ℕ
placed_limit = 262_144

abbrev pub placed_pixel_limit : ℕ
placed_pixel_limit = 1_073_741_824
