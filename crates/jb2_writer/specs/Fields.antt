-- The bits of records, field by field (DjVu 3 reference, JB2). Records before one are a list with the latest first.
use Rattle.std.specs.Prelude.{ℕ, ◌-◌, ◌++◌, ℤ, pos, ◌-ℤ◌, Bool, true, false, List, [], ◌∷◌, length}
use Rattle.bit_plane.specs.Pixels.{Pixels}
use Rattle.bit_plane.specs.declared.ink.InkBox.{InkBox}
use Rattle.bit_plane.specs.Ink.{ink_box_of, extent}
use Rattle.jb2_numbers.specs.declared.roots.Root.TheVariants as root
use Rattle.jb2_records.specs.Records.{Record, Start, MarkBoth, MarkLibrary, MarkImage, RefineBoth, RefineLibrary, RefineImage, Copy, Plain, Require}
use Rattle.jb2_records.specs.Records.{Comment, End, Relative, NewRow, SameRow, is_started, image_size, library, shape_at}
use Rattle.jb2_records.specs.Reading.{most, least}
use Rattle.jb2_writer.specs.Coded.{Coded, Bit, Anew, Flag, RowStart, number_coded, direct_coded, refined_coded}

-- the number of a record's type
abbrev pub type_number : Record → ℕ
type_number (Start width height flag) = 0
type_number (MarkBoth shape at) = 1
type_number (MarkLibrary shape) = 2
type_number (MarkImage shape at) = 3
type_number (RefineBoth matched shape at) = 4
type_number (RefineLibrary matched shape) = 5
type_number (RefineImage matched shape at) = 6
type_number (Copy matched at) = 7
type_number (Plain shape left top) = 8
type_number (Require count) = 9
type_number (Comment bytes) = 10
type_number End = 11

-- a shape of its own
abbrev pub own_coded : Pixels → List Coded
own_coded shape =
    number_coded root.ShapeWidth (pos 0) most (pos shape.width) ++ (number_coded root.ShapeHeight (pos 0) most (pos shape.height) ++ direct_coded shape)

-- the number of a shape of a library
abbrev pub match_coded : List Pixels → ℕ → List Coded
match_coded shapes number = number_coded root.Match (pos 0) (pos (length shapes - 1)) (pos number)

-- by how much a side is greater than the extent of the ink
abbrev pub side_difference : ℕ → ℤ → ℤ → ℤ
side_difference side low high = pos side -ℤ pos (extent low high)

abbrev pub beside_coded : Pixels → InkBox → Pixels → List Coded
beside_coded matched box shape =
    number_coded root.WidthDifference least most (side_difference shape.width box.left box.right)
    ++ (number_coded root.HeightDifference least most (side_difference shape.height box.bottom box.top) ++ refined_coded matched shape)

-- a shape that refines the one with this number
abbrev pub refinement_coded : List Pixels → ℕ → Pixels → List Coded
refinement_coded shapes number shape =
    match_coded shapes number ++ beside_coded (shape_at shapes number) (ink_box_of (shape_at shapes number)) shape

abbrev pub relative_coded : Relative → List Coded
relative_coded (NewRow dx dy) = Bit RowStart true ∷ (number_coded root.NewRowX least most dx ++ number_coded root.NewRowY least most dy)
relative_coded (SameRow dx dy) = Bit RowStart false ∷ (number_coded root.SameRowX least most dx ++ number_coded root.SameRowY least most dy)

-- after the start nothing is coded, and the contexts of numbers begin anew
abbrev pub require_coded : Bool → ℕ → List Coded
require_coded true count = Anew ∷ []
require_coded false count = number_coded root.InheritedCount (pos 0) most (pos count)

abbrev pub bytes_coded : List ℕ → List Coded
bytes_coded [] = []
bytes_coded (byte ∷ bytes) = number_coded root.CommentByte (pos 0) (pos 255) (pos byte) ++ bytes_coded bytes

-- what follows the type, with the library and the records before
abbrev pub body_coded : List Pixels → List Record → Record → List Coded
body_coded shapes before (Start width height flag) =
    number_coded root.ImageSize (pos 0) most (pos width) ++ (number_coded root.ImageSize (pos 0) most (pos height) ++ Bit Flag flag ∷ [])
body_coded shapes before (MarkBoth shape at) = own_coded shape ++ relative_coded at
body_coded shapes before (MarkLibrary shape) = own_coded shape
body_coded shapes before (MarkImage shape at) = own_coded shape ++ relative_coded at
body_coded shapes before (RefineBoth matched shape at) = refinement_coded shapes matched shape ++ relative_coded at
body_coded shapes before (RefineLibrary matched shape) = refinement_coded shapes matched shape
body_coded shapes before (RefineImage matched shape at) = refinement_coded shapes matched shape ++ relative_coded at
body_coded shapes before (Copy matched at) = match_coded shapes matched ++ relative_coded at
body_coded shapes before (Plain shape left top) =
    own_coded shape
    ++ (number_coded root.AbsoluteLeft (pos 1) (pos (image_size before).width) (pos left)
    ++ number_coded root.AbsoluteTop (pos 1) (pos (image_size before).height) (pos top))
body_coded shapes before (Require count) = require_coded (is_started before) count
body_coded shapes before (Comment bytes) = number_coded root.CommentLength (pos 0) most (pos (length bytes)) ++ bytes_coded bytes
body_coded shapes before End = []

-- a record behind these
abbrev pub record_coded : List Pixels → List Record → Record → List Coded
record_coded inherited before entry =
    number_coded root.RecordType (pos 0) (pos 11) (pos (type_number entry)) ++ body_coded (library inherited before) before entry

-- records in order, behind these
abbrev pub records_coded : List Pixels → List Record → List Record → List Coded
records_coded inherited before [] = []
records_coded inherited before (entry ∷ later) = record_coded inherited before entry ++ records_coded inherited (entry ∷ before) later

-- the bits in order
abbrev pub bits_of : List Coded → List Bool
bits_of [] = []
bits_of (Bit context bit ∷ later) = bit ∷ bits_of later
bits_of (Anew ∷ later) = bits_of later
