-- What is left of a record at each step of its reading.
use Rattle.std.specs.Prelude.{ℕ, ◌-◌, ℤ, pos, Bool, true, false, List, [], ◌∷◌, ◌++◌, length}
use Rattle.std.specs.Arc.{arc_value}
use Rattle.bit_plane.specs.Pixels.{Pixels}
use Rattle.bit_plane.specs.Ink.{ink_box_of, unsigned}
use Rattle.bit_plane.specs.declared.ink.InkBox.{InkBox}
use Rattle.jb2_numbers.specs.declared.roots.Root.{Root}
use Rattle.jb2_numbers.specs.declared.roots.Root.TheVariants as root
use Rattle.jb2_records.specs.declared.steps.Use.{Use}
use Rattle.jb2_records.specs.declared.steps.Use.TheVariants as use_of
use Rattle.jb2_records.specs.declared.steps.Origin.{Origin}
use Rattle.jb2_records.specs.declared.steps.Origin.TheVariants as origin
use Rattle.jb2_records.specs.declared.steps.Reference.{Reference}
use Rattle.jb2_records.specs.declared.steps.Reference.TheVariants as reference
use Rattle.jb2_records.specs.declared.steps.Mark.{Mark}
use Rattle.jb2_records.specs.declared.steps.Mark.TheVariants as mark
use Rattle.jb2_records.specs.declared.steps.Field.{Field}
use Rattle.jb2_records.specs.declared.steps.Field.TheVariants as field
use Rattle.jb2_records.specs.declared.steps.Step.{Step}
use Rattle.jb2_records.specs.declared.steps.Step.TheVariants as step
use Rattle.jb2_records.specs.Records.{Record, Start, MarkBoth, MarkLibrary, MarkImage, RefineBoth, RefineLibrary, RefineImage, Copy, Plain, Require, Relative, is_started, image_size, library, shape_at}
use Rattle.jb2_records.specs.Picture.{relative_by, relative_of}
use Rattle.jb2_records.specs.Coding.{Coder, Read, Got, then_read, checked, read_number, read_flag, read_row, read_direct, read_refined}
use Rattle.jb2_records.specs.Reading.{Input, most, least, type_of, type_fault, has_shapes, start_fault, shape_fault, place_fault, count_fault, refined_side, read_bytes, read_body}

-- the record that a shape makes, by what is done with it
abbrev pub both_record : Origin → Pixels → Relative → Record
both_record origin.Own shape at = MarkBoth shape at
both_record (origin.Refined number) shape at = RefineBoth number shape at

abbrev pub library_record : Origin → Pixels → Record
library_record origin.Own shape = MarkLibrary shape
library_record (origin.Refined number) shape = RefineLibrary number shape

abbrev pub image_record : Origin → Pixels → Relative → Record
image_record origin.Own shape at = MarkImage shape at
image_record (origin.Refined number) shape at = RefineImage number shape at

-- the record that a mark makes by its place, and its shape
abbrev pub record_of : Mark → Relative → Record
record_of (mark.Both made shape) at = both_record made (arc_value shape) at
record_of (mark.Image made shape) at = image_record made (arc_value shape) at
record_of (mark.Copy number) at = Copy number at

abbrev pub numbered : Input → List Record → ℕ → Pixels
numbered input before number = shape_at (library input.inherited before) number

abbrev pub shape_of : Input → List Record → Mark → Pixels
shape_of input before (mark.Both made shape) = arc_value shape
shape_of input before (mark.Image made shape) = arc_value shape
shape_of input before (mark.Copy number) = numbered input before number

abbrev pub x_root : Bool → Root
x_root true = root.NewRowX
x_root false = root.SameRowX

abbrev pub y_root : Bool → Root
y_root true = root.NewRowY
y_root false = root.SameRowY

-- ---- what is left, the last step first

abbrev pub placed : Input → List Record → Pixels → (Relative → Record) → Relative → Coder → Read Record
placed input before shape make place at = checked (place_fault input before shape) at (λ at. Got (make place) at)

abbrev pub from_dy : Input → List Record → Pixels → (Relative → Record) → Bool → ℤ → Coder → Read Record
from_dy input before shape make is_new dx at =
    then_read (read_number input.chunk (y_root is_new) least most at) (λ dy at. placed input before shape make (relative_by is_new dx dy) at)

abbrev pub from_dx : Input → List Record → Pixels → (Relative → Record) → Bool → Coder → Read Record
from_dx input before shape make is_new at =
    then_read (read_number input.chunk (x_root is_new) least most at) (λ dx at. from_dy input before shape make is_new dx at)

abbrev pub from_row : Input → List Record → Pixels → (Relative → Record) → Coder → Read Record
from_row input before shape make at = then_read (read_row input.chunk at) (λ is_new at. from_dx input before shape make is_new at)

abbrev pub from_top : Input → List Record → Pixels → ℤ → Coder → Read Record
from_top input before shape left at =
    then_read (read_number input.chunk root.AbsoluteTop (pos 1) (pos (image_size before).height) at) (λ top at.
    checked (place_fault input before shape) at (λ at. Got (Plain shape (unsigned left) (unsigned top)) at))

abbrev pub from_left : Input → List Record → Pixels → Coder → Read Record
from_left input before shape at =
    then_read (read_number input.chunk root.AbsoluteLeft (pos 1) (pos (image_size before).width) at) (λ left at. from_top input before shape left at)

-- behind the pixels of a shape
abbrev pub from_shape : Input → List Record → Origin → Use → Pixels → Coder → Read Record
from_shape input before made use_of.Both shape at = from_row input before shape (λ place. both_record made shape place) at
from_shape input before made use_of.Library shape at = Got (library_record made shape) at
from_shape input before made use_of.Image shape at = from_row input before shape (λ place. image_record made shape place) at
from_shape input before made use_of.Plain shape at = from_left input before shape at

abbrev pub from_own : Input → List Record → Use → ℕ → ℕ → Coder → Read Record
from_own input before kept width height at =
    then_read (read_direct input.chunk width height at) (λ shape at. from_shape input before origin.Own kept shape at)

abbrev pub from_own_height : Input → List Record → Use → ℤ → Coder → Read Record
from_own_height input before kept width at =
    then_read (read_number input.chunk root.ShapeHeight (pos 0) most at) (λ height at.
    checked (shape_fault input before width height) at (λ at. from_own input before kept (unsigned width) (unsigned height) at))

abbrev pub from_own_width : Input → List Record → Use → Coder → Read Record
from_own_width input before kept at =
    then_read (read_number input.chunk root.ShapeWidth (pos 0) most at) (λ width at. from_own_height input before kept width at)

abbrev pub from_beside : Input → List Record → Use → ℕ → ℕ → ℕ → Coder → Read Record
from_beside input before kept number width height at =
    then_read (read_refined input.chunk (numbered input before number) width height at)
    (λ shape at. from_shape input before (origin.Refined number) kept shape at)

-- the sides of a refined shape
abbrev pub wide_of : InkBox → ℤ → ℤ
wide_of box difference = refined_side box.left box.right difference

abbrev pub high_of : InkBox → ℤ → ℤ
high_of box difference = refined_side box.bottom box.top difference

abbrev pub from_beside_sizes : Input → List Record → Use → ℕ → ℤ → ℤ → Coder → Read Record
from_beside_sizes input before kept number width height at =
    checked (shape_fault input before width height) at (λ at. from_beside input before kept number (unsigned width) (unsigned height) at)

abbrev pub from_beside_height : Input → List Record → Use → ℕ → ℤ → Coder → Read Record
from_beside_height input before kept number wider at =
    then_read (read_number input.chunk root.HeightDifference least most at) (λ higher at.
    from_beside_sizes input before kept number (wide_of (ink_box_of (numbered input before number)) wider)
    (high_of (ink_box_of (numbered input before number)) higher) at)

abbrev pub from_beside_width : Input → List Record → Use → ℕ → Coder → Read Record
from_beside_width input before kept number at =
    then_read (read_number input.chunk root.WidthDifference least most at) (λ wider at. from_beside_height input before kept number wider at)

-- behind the number of a shape of the library
abbrev pub from_matched : Input → List Record → Reference → ℕ → Coder → Read Record
from_matched input before (reference.Refine kept) number at = from_beside_width input before kept number at
from_matched input before reference.Copy number at = from_row input before (numbered input before number) (λ place. Copy number place) at

abbrev pub last_number : List Pixels → List Record → ℕ
last_number inherited before = length (library inherited before) - 1

abbrev pub from_match : Input → List Record → Reference → Coder → Read Record
from_match input before goal at =
    then_read (read_number input.chunk root.Match (pos 0) (pos (last_number input.inherited before)) at)
    (λ number at. from_matched input before goal (unsigned number) at)

abbrev pub from_start : ℤ → ℤ → Bool → Coder → Read Record
from_start width height flag at = Got (Start (unsigned width) (unsigned height) flag) at

abbrev pub from_flag : Input → ℤ → ℤ → Coder → Read Record
from_flag input width height at =
    then_read (read_flag input.chunk at) (λ flag at. checked (start_fault input.purpose width height) at (λ at. from_start width height flag at))

abbrev pub from_start_height : Input → ℤ → Coder → Read Record
from_start_height input width at =
    then_read (read_number input.chunk root.ImageSize (pos 0) most at) (λ height at. from_flag input width height at)

abbrev pub from_start_width : Input → Coder → Read Record
from_start_width input at =
    then_read (read_number input.chunk root.ImageSize (pos 0) most at) (λ width at. from_start_height input width at)

abbrev pub from_count : Input → Coder → Read Record
from_count input at =
    then_read (read_number input.chunk root.InheritedCount (pos 0) most at) (λ count at.
    checked (count_fault input count) at (λ at. Got (Require (unsigned count)) at))

abbrev pub from_length : Input → Coder → Read Record
from_length input at =
    then_read (read_number input.chunk root.CommentLength (pos 0) most at) (λ count at. read_bytes input.chunk (unsigned count) [] at)

-- so many bytes of a comment behind the one that is read, and behind these
abbrev pub from_byte : Input → List ℕ → ℕ → Coder → Read Record
from_byte input text left at =
    then_read (read_number input.chunk root.CommentByte (pos 0) (pos 255) at) (λ byte at. read_bytes input.chunk left (text ++ unsigned byte ∷ []) at)

abbrev pub from_kind : Input → List Record → ℤ → Coder → Read Record
from_kind input before number at =
    checked (type_fault input.purpose (is_started before) (has_shapes input before) (type_of number)) at (λ at. read_body input before (type_of number) at)

-- ---- numbers

abbrev pub root_of : Field → Root
root_of field.Kind = root.RecordType
root_of field.StartWidth = root.ImageSize
root_of (field.StartHeight width) = root.ImageSize
root_of (field.OwnWidth kept) = root.ShapeWidth
root_of (field.OwnHeight kept width) = root.ShapeHeight
root_of (field.Match goal) = root.Match
root_of (field.BesideWidth kept number) = root.WidthDifference
root_of (field.BesideHeight kept number wider) = root.HeightDifference
root_of (field.Dx placed is_new) = x_root is_new
root_of (field.Dy placed is_new dx) = y_root is_new
root_of (field.Left shape) = root.AbsoluteLeft
root_of (field.Top shape left) = root.AbsoluteTop
root_of field.InheritedCount = root.InheritedCount
root_of field.CommentLength = root.CommentLength
root_of (field.CommentByte left) = root.CommentByte

abbrev pub low_of : Field → ℤ
low_of (field.BesideWidth kept number) = least
low_of (field.BesideHeight kept number wider) = least
low_of (field.Dx placed is_new) = least
low_of (field.Dy placed is_new dx) = least
low_of (field.Left shape) = pos 1
low_of (field.Top shape left) = pos 1
low_of other = pos 0

abbrev pub most_of : List Pixels → List Record → Field → ℤ
most_of inherited before field.Kind = pos 11
most_of inherited before (field.Match goal) = pos (last_number inherited before)
most_of inherited before (field.Left shape) = pos (image_size before).width
most_of inherited before (field.Top shape left) = pos (image_size before).height
most_of inherited before (field.CommentByte left) = pos 255
most_of inherited before other = most

-- what is left behind this number
unfoldable pub behind : Input → List Record → List ℕ → Field → ℤ → Coder → Read Record
behind input before text field.Kind number at = from_kind input before number at
behind input before text field.StartWidth number at = from_start_height input number at
behind input before text (field.StartHeight width) number at = from_flag input width number at
behind input before text (field.OwnWidth kept) number at = from_own_height input before kept number at
behind input before text (field.OwnHeight kept width) number at =
    checked (shape_fault input before width number) at (λ at. from_own input before kept (unsigned width) (unsigned number) at)
behind input before text (field.Match goal) number at = from_matched input before goal (unsigned number) at
behind input before text (field.BesideWidth kept matched) number at = from_beside_height input before kept matched number at
behind input before text (field.BesideHeight kept matched wider) number at =
    from_beside_sizes input before kept matched (wide_of (ink_box_of (numbered input before matched)) wider)
    (high_of (ink_box_of (numbered input before matched)) number) at
behind input before text (field.Dx placed is_new) number at =
    from_dy input before (shape_of input before placed) (λ place. record_of placed place) is_new number at
behind input before text (field.Dy moved is_new dx) number at =
    placed input before (shape_of input before moved) (λ place. record_of moved place) (relative_by is_new dx number) at
behind input before text (field.Left shape) number at = from_top input before (arc_value shape) number at
behind input before text (field.Top shape left) number at =
    checked (place_fault input before (arc_value shape)) at (λ at. Got (Plain (arc_value shape) (unsigned left) (unsigned number)) at)
behind input before text field.InheritedCount number at = checked (count_fault input number) at (λ at. Got (Require (unsigned number)) at)
behind input before text field.CommentLength number at = read_bytes input.chunk (unsigned number) [] at
behind input before text (field.CommentByte left) number at = read_bytes input.chunk left (text ++ unsigned number ∷ []) at

abbrev pub from_number : Input → List Record → List ℕ → Field → Coder → Read Record
from_number input before text place at =
    then_read (read_number input.chunk (root_of place) (low_of place) (most_of input.inherited before place) at)
    (λ number at. behind input before text place number at)

-- what is left of a record at a step, where these bytes of a comment were read
unfoldable pub rest_of : Input → List Record → List ℕ → Step → Coder → Read Record
rest_of input before text (step.Number place reader) at = from_number input before text place at
rest_of input before text (step.Flag width height) at = from_flag input width height at
rest_of input before text (step.Row moved) at = from_row input before (shape_of input before moved) (λ place. record_of moved place) at
rest_of input before text (step.Own kept width height) at = from_own input before kept width height at
rest_of input before text (step.Direct kept reader) at = from_own input before kept reader.shape.width reader.shape.height at
rest_of input before text (step.Beside kept number width height) at = from_beside input before kept number width height at
rest_of input before text (step.Refined kept number reader) at = from_beside input before kept number reader.sketch.shape.width reader.sketch.shape.height at
rest_of input before text (step.Shape made kept shape) at = from_shape input before made kept shape at
rest_of input before text (step.Start width height flag) at = from_start width height flag at
rest_of input before text (step.Keep made shape) at = Got (library_record made (arc_value shape)) at
rest_of input before text (step.Place moved steps) at =
    placed input before (shape_of input before moved) (λ place. record_of moved place) (relative_of steps) at
