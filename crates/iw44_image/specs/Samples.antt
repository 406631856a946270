-- The samples of a layer's pixels.
use Rattle.std.specs.Prelude.{ℕ, ◌-◌, ◌*◌, ◌/◌, ◌%◌, ◌==◌, Bool, false, if◌then◌else◌, ℤ, pos, negsuc, ◌+ℤ◌, ◌-ℤ◌, ◌*ℤ◌, unsigned_abs, List, map}
use Rattle.std.specs.Int.{int_shr, int_max, int_min}
use Rattle.std.specs.List.{range_with_len}
use Rattle.djvu_base.specs.Picture.{Picture}
use Rattle.iw44_blocks.specs.Plane.{Plane, grid_of}
use Rattle.iw44_blocks.specs.Lattice.{Lattice, value_at, values_by}
use Rattle.iw44_lifting.specs.Lift.{lifted}
use Rattle.iw44_image.specs.declared.headers.Header.{Header}
use Rattle.iw44_image.specs.declared.colours.Colour.{Colour}
use Rattle.iw44_image.specs.Layer.{Planes}

-- a number brought between a least and a largest one
abbrev pub within : ℤ → ℤ → ℤ → ℤ
within least most number = int_max least (int_min most number)

-- the sample of a value: 64 of a value make one
abbrev pub sample_of : ℤ → ℤ
sample_of value = within (negsuc 127) (pos 127) (int_shr (value +ℤ pos 32) 6)

abbrev pub byte_of : ℤ → ℕ
byte_of number = unsigned_abs (within (pos 0) (pos 255) number)

-- of a grey image, by the sample of y
abbrev pub grey : ℤ → Colour
grey y = record { red = byte_of (pos 127 -ℤ y); green = byte_of (pos 127 -ℤ y); blue = byte_of (pos 127 -ℤ y) }

-- what r adds to red, and what is left of y for green and blue
abbrev pub red_part : ℤ → ℤ
red_part r = r +ℤ int_shr r 1

abbrev pub base_part : ℤ → ℤ → ℤ
base_part y b = y +ℤ pos 128 -ℤ int_shr b 2

-- of an image with colours, by the samples of y, b and r
abbrev pub colour : ℤ → ℤ → ℤ → Colour
colour y b r = record {
  red = byte_of (y +ℤ pos 128 +ℤ red_part r);
  green = byte_of (base_part y b -ℤ int_shr (red_part r) 1);
  blue = byte_of (base_part y b +ℤ pos 2 *ℤ b);
}

-- the scale at which the inverse transform of a plane ends: at half size the last one is left out
abbrev pub last_scale : Bool → ℕ
last_scale half = if half then 2 else 1

-- the value of a grid for a place: at half size two by two places have one
abbrev pub placed_value : Bool → Lattice → ℕ → ℕ → ℤ
placed_value half grid x y = if half then value_at grid (2 * (x / 2)) (2 * (y / 2)) else value_at grid x y

-- the value of a plane for a place
abbrev pub plane_value : Bool → Plane → ℕ → ℕ → ℤ
plane_value half plane x y = placed_value half (lifted (last_scale half) (grid_of plane)) x y

-- the samples of a plane, rows from the bottom and each from the left
unfoldable pub plane_samples : Bool → Plane → List ℤ
plane_samples half plane = values_by plane.width (plane.width * plane.height) (λ x y. sample_of (plane_value half plane x y))

-- the coefficients of an image: a grey one uses the first plane
pub record Components : Type 0 where
  pub y : Plane
  pub b : Plane
  pub r : Plane

abbrev pub components_of : Planes → Components
components_of planes = record { y = planes.y.plane; b = planes.b.plane; r = planes.r.plane }

-- the pixel in column x from the left and row y from the bottom
abbrev pub pixel : Header → Components → ℕ → ℕ → Colour
pixel header it x y =
    if header.grey then grey (sample_of (plane_value false it.y x y))
    else colour (sample_of (plane_value false it.y x y)) (sample_of (plane_value header.half it.b x y)) (sample_of (plane_value header.half it.r x y))

-- red, green and blue of a pixel, by their number
abbrev pub channel_of : ℕ → Colour → ℕ
channel_of number it = if number == 0 then it.red else if number == 1 then it.green else it.blue

-- sample n of a picture, whose rows come from the top: three for each pixel
abbrev pub sample_at : Header → Components → ℕ → ℕ
sample_at header it n = channel_of (n % 3) (pixel header it (n / 3 % header.width) (header.height - 1 - n / 3 / header.width))

abbrev pub picture : Header → Components → Picture
picture header it = record {
  width = header.width;
  height = header.height;
  samples = map (sample_at header it) (range_with_len 0 (3 * header.width * header.height));
}
