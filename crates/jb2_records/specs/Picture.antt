-- What a picture shows of the records of a mask: the marks, and what further ones are placed by.
use Rattle.std.specs.Prelude.{◌≡◌, ℕ, ◌+◌, ◌≤◌, ℤ, Bool, true, false, List, [], length, Option, Some, None}
use Rattle.bit_plane.specs.Pixels.{Pixels}
use Rattle.jb2_places.specs.Place.{Placement}
use Rattle.jb2_places.specs.After.{Lead, IsAfter}
use Rattle.jb2_records.specs.declared.frames.Steps.{Steps}
use Rattle.jb2_records.specs.Limits.{placed_limit, placed_pixel_limit}
use Rattle.jb2_records.specs.Records.{Record, MarkLibrary, RefineLibrary, Require, Comment, End, Relative, NewRow, SameRow}
use Rattle.jb2_records.specs.Records.{Frame, Mark, area, image_size, placements, placed_shapes, pixels_of_placed}
use Rattle.jb2_records.specs.Reading.{Input, Mask}
use Rattle.jb2_records.specs.Mask.{mask_of}
use Rattle.jb2_records.specs.Reader.{IsMaskSize}
use Rattle.jb2_records.specs.Sides.{IsShape}

-- steps as records tell them
abbrev pub relative_by : Bool → ℤ → ℤ → Relative
relative_by true dx dy = NewRow dx dy
relative_by false dx dy = SameRow dx dy

abbrev pub relative_of : Steps → Relative
relative_of steps = relative_by steps.is_new steps.dx steps.dy

-- the mask, what the next mark is placed by, and how many shapes were placed, with their pixels
pub record Picture : Type 0 where
  pub mask : Pixels
  pub places : Lead
  pub count : ℕ
  pub pixels : ℕ

-- a picture shows what these records draw
pub record Shows (input : Input) (before : List Record) (picture : Picture) : Type 0 where
  pub purpose : input.purpose ≡ Mask picture.mask.width picture.mask.height
  pub size : image_size before ≡ record { width = picture.mask.width; height = picture.mask.height }
  pub mask : picture.mask ≡ mask_of picture.mask.width picture.mask.height (placed_shapes input.inherited before)
  pub count : picture.count ≡ length (placed_shapes input.inherited before)
  pub pixels : picture.pixels ≡ pixels_of_placed (placed_shapes input.inherited before)
  pub after : IsAfter picture.mask.height (placements input.inherited before) picture.places

-- these records draw nothing
pub record IsBlank (input : Input) (before : List Record) : Type 0 where
  pub marks : placements input.inherited before ≡ []
  pub placed : placed_shapes input.inherited before ≡ []

-- what records draw, where there is a picture only once a mask's start was read
abbrev pub Draws : Input → List Record → Option Picture → Type 0
Draws input before None = IsBlank input before
Draws input before (Some picture) = Shows input before picture

-- records behind the start that draw nothing
abbrev pub draws_nothing : Record → Bool
draws_nothing (MarkLibrary shape) = true
draws_nothing (RefineLibrary matched shape) = true
draws_nothing (Require count) = true
draws_nothing (Comment bytes) = true
draws_nothing End = true
draws_nothing entry = false

-- a mark of a shape
abbrev pub mark_at : Pixels → Frame → Steps → Mark
mark_at shape frame steps = record { shape = shape; frame = frame; at = relative_of steps }

-- these places come after at most so many placements
pub record ArePlaced (count : ℕ) (places : Lead) : Type 0 where
  pub image_height : ℕ
  pub earlier : List Placement
  pub after : IsAfter image_height earlier places
  pub few : length earlier ≤ count

-- what a picture keeps to
pub record IsPicture (picture : Picture) : Type 0 where
  pub size : IsMaskSize picture.mask.width picture.mask.height
  pub few : picture.count ≤ placed_limit
  pub area : picture.pixels ≤ placed_pixel_limit
  pub rows : ArePlaced picture.count picture.places

-- there is room for this shape, placed
pub record IsPlaceable (shape : Pixels) (picture : Picture) : Type 0 where
  pub sides : IsShape shape
  pub room : picture.count + 1 ≤ placed_limit
  pub area_room : picture.pixels + area shape ≤ placed_pixel_limit
