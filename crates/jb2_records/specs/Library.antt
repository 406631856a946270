-- What a library keeps of the records of a chunk: the shapes, and what further ones are checked by.
use Rattle.std.specs.Prelude.{◌≡◌, ℕ, ◌+◌, ◌*◌, ◌≤◌, Bool, true, false, List, [], ◌∷◌, ◌++◌, length, All}
use Rattle.bit_plane.specs.Pixels.{Pixels, side_limit}
use Rattle.bit_plane.specs.declared.ink.InkBox.{InkBox}
use Rattle.bit_plane.specs.Ink.{ink_box_of}
use Rattle.jb2_records.specs.Limits.{shape_limit}
use Rattle.jb2_records.specs.Records.{Record, area, is_started, own_count, own_pixels, taken, own_library}
use Rattle.jb2_records.specs.Reading.{Input, Purpose, Dictionary, Mask, pixel_limit}
use Rattle.jb2_records.specs.Reader.{IsMaskSize}
use Rattle.jb2_records.specs.Sides.{IsShape}

-- a shape's ink box is kept beside it
pub record IsKeptShape (shape : Pixels) (ink : InkBox) : Type 0 where
  pub ink_is : ink ≡ ink_box_of shape
  pub sides : IsShape shape

-- what the records are for and the inherited shapes; whether the start was read, which inherited shapes are taken, the own
-- ones, and how many shapes the records brought, with their pixels
pub record Library : Type 0 where
  pub inherited : List Pixels
  pub purpose : Purpose
  pub started : Bool
  pub taken : List Pixels
  pub own : List Pixels
  pub count : ℕ
  pub pixels : ℕ

-- its shapes, by their numbers
abbrev pub shapes_of : Library → List Pixels
shapes_of library = library.taken ++ library.own

-- all of these shapes, or none
abbrev pub taken_of : Bool → List Pixels → List Pixels
taken_of true shapes = shapes
taken_of false shapes = []

-- the library behind records
abbrev pub library_of : Input → List Record → Library
library_of input before = record {
  inherited = input.inherited;
  purpose = input.purpose;
  started = is_started before;
  taken = taken input.inherited before;
  own = own_library before;
  count = own_count before;
  pixels = own_pixels before;
}

-- a library stands behind these records
pub record Keeps (input : Input) (before : List Record) (library : Library) : Type 0 where
  pub is : library ≡ library_of input before

-- with the start
abbrev pub with_start : Library → Library
with_start library = record library { started = true }

-- with these inherited shapes in place of what was taken before
abbrev pub with_taken : List Pixels → Library → Library
with_taken shapes library = record library { taken = shapes }

-- with one shape more, which isn't kept
abbrev pub with_used : Pixels → Library → Library
with_used shape library = record library { count = library.count + 1; pixels = library.pixels + area shape }

-- or which is
abbrev pub with_kept : Pixels → Library → Library
with_kept shape library = record library { own = library.own ++ shape ∷ []; count = library.count + 1; pixels = library.pixels + area shape }

-- there is room for one shape more of this size
pub record HasRoomFor (width height : ℕ) (library : Library) : Type 0 where
  pub width_fits : width ≤ side_limit
  pub height_fits : height ≤ side_limit
  pub started : library.started ≡ true
  pub room : length library.taken + library.count + 1 ≤ shape_limit
  pub area_room : library.pixels + width * height ≤ pixel_limit library.purpose

-- for this shape
abbrev pub IsAddable : Pixels → Library → Type 0
IsAddable shape library = HasRoomFor shape.width shape.height library

-- what records can be for
abbrev pub IsPurpose : Purpose → Type 0
IsPurpose Dictionary = Unit {0}
IsPurpose (Mask width height) = IsMaskSize width height

-- what a library keeps to
pub record IsKept (library : Library) : Type 0 where
  pub purpose : IsPurpose library.purpose
  pub own_sides : All IsShape library.own
  pub shapes : length library.taken + library.count ≤ shape_limit
  pub own_few : length library.own ≤ library.count
  pub own_area : library.pixels ≤ pixel_limit library.purpose
  pub unstarted : library.started ≡ false → library.count ≡ 0
