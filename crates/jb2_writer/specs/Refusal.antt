-- Which records can't be written: those that a reading would refuse, or that have a field which it can't read.
use Rattle.std.specs.Prelude.{ℕ, ◌+◌, ◌==◌, ℤ, pos, int_le, Bool, true, false, not, ◌&&◌, List, [], ◌∷◌, length, Option, Some, None, is_some, nat_le}
use Rattle.std.specs.Prelude.{nat_lt, if◌then◌else◌}
use Rattle.std.specs.List.{list_all}
use Rattle.djvu_base.specs.declared.faults.FaultKind.{FaultKind}
use Rattle.bit_plane.specs.Pixels.{Pixels}
use Rattle.bit_plane.specs.declared.ink.InkBox.{InkBox}
use Rattle.bit_plane.specs.Ink.{ink_box_of}
use Rattle.zp_decoder.specs.Chunk.{chunk}
use Rattle.jb2_records.specs.Records.{Record, Start, MarkBoth, MarkLibrary, MarkImage, RefineBoth, RefineLibrary, RefineImage, Copy, Plain, Require}
use Rattle.jb2_records.specs.Records.{Comment, End, Relative, NewRow, SameRow, Extent, is_end, is_started, image_size, library, shape_at}
use Rattle.jb2_records.specs.declared.purpose.Purpose.{Purpose}
use Rattle.jb2_records.specs.declared.purpose.Purpose.TheVariants as purpose
use Rattle.jb2_records.specs.Reading.{Input, most, least, type_by, type_fault, has_shapes, start_fault, shape_fault}
use Rattle.jb2_records.specs.Reading.{place_fault, count_fault}
use Rattle.jb2_writer.specs.Fields.{type_number, side_difference}

-- the checks of a reading look at no byte
abbrev pub rules : List Pixels → Purpose → Input
rules inherited purpose = record { chunk = chunk [] [] true; inherited = inherited; purpose = purpose }

-- the size that the first start tells
abbrev pub size_told : List Record → Extent
size_told [] = record { width = 0; height = 0 }
size_told (Start width height flag ∷ later) = record { width = width; height = height }
size_told (entry ∷ later) = size_told later

-- a mask has the size that its start tells
abbrev pub mask_purpose : List Record → Purpose
mask_purpose records = purpose.Mask (size_told records).width (size_told records).height

abbrev pub is_sound : Option FaultKind → Bool
is_sound fault = not (is_some fault)

abbrev pub is_from_to : ℤ → ℤ → ℤ → Bool
is_from_to low high value = int_le low value && int_le value high

abbrev pub is_unsigned : ℕ → Bool
is_unsigned number = is_from_to (pos 0) most (pos number)

abbrev pub is_step : Relative → Bool
is_step (NewRow dx dy) = is_from_to least most dx && is_from_to least most dy
is_step (SameRow dx dy) = is_from_to least most dx && is_from_to least most dy

abbrev pub is_shape : Input → List Record → Pixels → Bool
is_shape input before shape = is_sound (shape_fault input before (pos shape.width) (pos shape.height))

abbrev pub is_mark : Input → List Record → Pixels → Relative → Bool
is_mark input before shape at = is_step at && is_sound (place_fault input before shape)

abbrev pub is_beside : InkBox → Pixels → Bool
is_beside box shape =
    is_from_to least most (side_difference shape.width box.left box.right) && is_from_to least most (side_difference shape.height box.bottom box.top)

abbrev pub is_match : Input → List Record → ℕ → Bool
is_match input before matched = nat_lt matched (length (library input.inherited before))

abbrev pub is_refinement : Input → List Record → ℕ → Pixels → Bool
is_refinement input before matched shape =
    is_match input before matched && is_beside (ink_box_of (shape_at (library input.inherited before) matched)) shape && is_shape input before shape

abbrev pub is_place : ℕ → ℕ → Bool
is_place most place = nat_le 1 place && nat_le place most

abbrev pub is_requirement : Input → Bool → ℕ → Bool
is_requirement input true count = count == 0
is_requirement input false count = is_unsigned count && is_sound (count_fault input (pos count))

-- whether the fields are in their ranges and within the limits
abbrev pub has_fields : Input → List Record → Record → Bool
has_fields input before (Start width height flag) = is_unsigned width && is_unsigned height && is_sound (start_fault input.purpose (pos width) (pos height))
has_fields input before (MarkBoth shape at) = is_shape input before shape && is_mark input before shape at
has_fields input before (MarkLibrary shape) = is_shape input before shape
has_fields input before (MarkImage shape at) = is_shape input before shape && is_mark input before shape at
has_fields input before (RefineBoth matched shape at) = is_refinement input before matched shape && is_mark input before shape at
has_fields input before (RefineLibrary matched shape) = is_refinement input before matched shape
has_fields input before (RefineImage matched shape at) = is_refinement input before matched shape && is_mark input before shape at
has_fields input before (Copy matched at) =
    is_match input before matched && is_mark input before (shape_at (library input.inherited before) matched) at
has_fields input before (Plain shape left top) =
    is_shape input before shape && is_place (image_size before).width left && is_place (image_size before).height top
    && is_sound (place_fault input before shape)
has_fields input before (Require count) = is_requirement input (is_started before) count
has_fields input before (Comment bytes) = is_unsigned (length bytes) && list_all (λ byte. nat_le byte 255) bytes
has_fields input before End = true

-- whether a record can be written behind these
abbrev pub can_follow : Input → List Record → Record → Bool
can_follow input before entry =
    is_sound (type_fault input.purpose (is_started before) (has_shapes input before) (type_by (type_number entry))) && has_fields input before entry

-- behind the end nothing can
abbrev pub refused_behind : ℕ → List Record → Option ℕ
refused_behind number [] = None
refused_behind number (entry ∷ later) = Some number

-- the number of the first record that can't, where so many stand before these, the latest first. Without an end it is the number of records
abbrev pub refused_from : Input → ℕ → List Record → List Record → Option ℕ
refused_from input number before [] = Some number
refused_from input number before (entry ∷ later) =
    if not (can_follow input before entry) then Some number
    else if is_end entry then refused_behind (number + 1) later
    else refused_from input (number + 1) (entry ∷ before) later

abbrev pub refused : List Pixels → Purpose → List Record → Option ℕ
refused inherited purpose records = refused_from (rules inherited purpose) 0 [] records

abbrev pub dictionary_refused : List Pixels → List Record → Option ℕ
dictionary_refused inherited records = refused inherited purpose.Dictionary records

abbrev pub mask_refused : List Pixels → List Record → Option ℕ
mask_refused inherited records = refused inherited (mask_purpose records) records
