-- How the reading of records stands to the definition, where it may be suspended at any step.
use Rattle.std.specs.Prelude.{◌≡◌, ℕ, ◌+◌, ◌-◌, ◌*◌, ◌<◌, ◌≤◌, ◌≤ℤ◌, ℤ, pos, Bool, true, false, List, [], ◌∷◌, length, Option, Some, None, Result, Ok, Err}
use Rattle.std.specs.Arc.{arc_value}
use Rattle.djvu_base.specs.Meter.{TicksExactly}
use Rattle.djvu_base.specs.declared.faults.FaultKind.{FaultKind}
use Rattle.bit_plane.specs.Ink.{unsigned}
use Rattle.zp_decoder.specs.Runs.{room}
use Rattle.zp_decoder.specs.Chunk.{Chunk}
use Rattle.jb2_numbers.specs.Number.{Wanted, wanted}
use Rattle.jb2_numbers.specs.Reader.{AreBounds, IsUnderway}
use Rattle.jb2_records.specs.declared.steps.Use.{Use}
use Rattle.jb2_records.specs.declared.steps.Use.TheVariants as use_of
use Rattle.jb2_records.specs.declared.steps.Reference.{Reference}
use Rattle.jb2_records.specs.declared.steps.Reference.TheVariants as reference
use Rattle.jb2_records.specs.declared.steps.Mark.{Mark}
use Rattle.jb2_records.specs.declared.steps.Mark.TheVariants as mark
use Rattle.jb2_records.specs.declared.steps.Field.{Field}
use Rattle.jb2_records.specs.declared.steps.Field.TheVariants as field
use Rattle.jb2_records.specs.declared.steps.Step.{Step}
use Rattle.jb2_records.specs.declared.steps.Step.TheVariants as step
use Rattle.jb2_records.specs.declared.machine.Halt.{Halt}
use Rattle.jb2_records.specs.declared.machine.Halt.TheVariants as halt
use Rattle.jb2_records.specs.declared.machine.Machine.{Machine}
use Rattle.jb2_records.specs.declared.stops.Stop.{Stop}
use Rattle.jb2_records.specs.declared.stops.Stop.TheVariants as stop
use Rattle.jb2_records.specs.declared.types.RecordType.{RecordType}
use Rattle.jb2_records.specs.declared.types.RecordType.TheVariants as type
use Rattle.jb2_records.specs.declared.reader.Jb2Step.{Jb2Step}
use Rattle.jb2_records.specs.declared.reader.Jb2Step.TheVariants as answer
use Rattle.jb2_records.specs.Records.{Record, Start, is_end}
use Rattle.jb2_records.specs.Coding.{Coder, Read, Got}
use Rattle.jb2_records.specs.Reading.{Input, Purpose, Dictionary, Mask, most, start_fault, Outcome, after_record, records_from, records_of, most_records}
use Rattle.jb2_records.specs.Growth.{IsSound}
use Rattle.jb2_records.specs.Taking.{Becomes, room_of}
use Rattle.jb2_records.specs.Telling.{Parts, Stands, HalfNumber, HalfShape}
use Rattle.jb2_records.specs.Library.{Library, shapes_of, Keeps, HasRoomFor, IsAddable}
use Rattle.jb2_records.specs.Picture.{Picture, Draws, Shows, IsBlank}
use Rattle.jb2_records.specs.Steps.{root_of, low_of, most_of, numbered, rest_of}

-- ---- what each step needs of the library and the picture

-- there is a picture
abbrev pub HasPicture : Option Picture → Type 0
HasPicture None = ⊥
HasPicture (Some picture) = Unit {0}

abbrev pub UseFits : Use → Option Picture → Type 0
UseFits use_of.Library picture = Unit {0}
UseFits kept picture = HasPicture picture

abbrev pub ReferenceFits : Reference → Option Picture → Type 0
ReferenceFits (reference.Refine kept) picture = UseFits kept picture
ReferenceFits reference.Copy picture = HasPicture picture

abbrev pub MarkFits : Mark → Library → Option Picture → Type 0
MarkFits (mark.Both made shape) library picture = IsAddable (arc_value shape) library × HasPicture picture
MarkFits (mark.Image made shape) library picture = IsAddable (arc_value shape) library × HasPicture picture
MarkFits (mark.Copy number) library picture = (number < length (shapes_of library)) × HasPicture picture

abbrev pub FieldFits : Field → Library → Option Picture → Type 0
FieldFits field.Kind library picture = Unit {0}
FieldFits field.StartWidth library picture = library.started ≡ false
FieldFits (field.StartHeight width) library picture = library.started ≡ false
FieldFits (field.OwnWidth kept) library picture = (library.started ≡ true) × UseFits kept picture
FieldFits (field.OwnHeight kept width) library picture = (library.started ≡ true) × UseFits kept picture
FieldFits (field.Match goal) library picture = (library.started ≡ true) × (0 < length (shapes_of library)) × ReferenceFits goal picture
FieldFits (field.BesideWidth kept number) library picture = (library.started ≡ true) × (number < length (shapes_of library)) × UseFits kept picture
FieldFits (field.BesideHeight kept number wider) library picture = (library.started ≡ true) × (number < length (shapes_of library)) × UseFits kept picture
FieldFits (field.Dx moved is_new) library picture = MarkFits moved library picture
FieldFits (field.Dy moved is_new dx) library picture = MarkFits moved library picture
FieldFits (field.Left shape) library picture = IsAddable (arc_value shape) library × HasPicture picture
FieldFits (field.Top shape left) library picture = (IsAddable (arc_value shape) library × HasPicture picture) × (pos 1 ≤ℤ left)
FieldFits field.InheritedCount library picture = library.started ≡ false
FieldFits field.CommentLength library picture = Unit {0}
FieldFits (field.CommentByte left) library picture = Unit {0}

abbrev pub width_of : Option Picture → ℕ
width_of None = 1
width_of (Some picture) = picture.mask.width

abbrev pub height_of : Option Picture → ℕ
height_of None = 1
height_of (Some picture) = picture.mask.height

-- the greatest number that may be read
abbrev pub high_at : Field → Library → Option Picture → ℤ
high_at field.Kind library picture = pos 11
high_at (field.Match goal) library picture = pos (length (shapes_of library) - 1)
high_at (field.Left shape) library picture = pos (width_of picture)
high_at (field.Top shape left) library picture = pos (height_of picture)
high_at (field.CommentByte left) library picture = pos 255
high_at other library picture = most

abbrev pub wanted_at : Field → Library → Option Picture → Wanted
wanted_at place library picture = wanted (root_of place) (low_of place) (high_at place library picture)

pub record NumberFits (place : Field) (library : Library) (picture : Option Picture) : Type 0 where
  pub fits : FieldFits place library picture
  pub bounds : AreBounds (low_of place) (high_at place library picture)

abbrev pub StepFits : Step → Library → Option Picture → Type 0
StepFits (step.Number place reader) library picture = NumberFits place library picture × IsUnderway (wanted_at place library picture) reader
StepFits (step.Flag width height) library picture = library.started ≡ false
StepFits (step.Row moved) library picture = MarkFits moved library picture
StepFits (step.Own kept width height) library picture = HasRoomFor width height library × UseFits kept picture
StepFits (step.Direct kept reader) library picture = HasRoomFor reader.shape.width reader.shape.height library × UseFits kept picture
StepFits (step.Beside kept number width height) library picture = HasRoomFor width height library ×
    (number < length (shapes_of library)) × UseFits kept picture
StepFits (step.Refined kept number reader) library picture = HasRoomFor reader.sketch.shape.width reader.sketch.shape.height library × UseFits kept picture
StepFits (step.Shape made kept shape) library picture = IsAddable shape library × UseFits kept picture
StepFits (step.Start width height flag) library picture = (library.started ≡ false) × (start_fault library.purpose width height ≡ None)
StepFits (step.Keep made shape) library picture = IsAddable (arc_value shape) library
StepFits (step.Place moved steps) library picture = MarkFits moved library picture

-- there is a picture once the start of a mask was read, and not before
abbrev pub IsPictured : Library → Option Picture → Type 0
IsPictured library None = library.started ≡ true → library.purpose ≡ Dictionary
IsPictured library (Some picture) = library.started ≡ true

abbrev pub Fits : Step → Library → Option Picture → Type 0
Fits at library picture = IsPictured library picture × StepFits at library picture

-- ---- how the reading stands to the definition

-- the same records in another chunk
abbrev pub with_chunk : Input → Chunk → Input
with_chunk input chunk = record { chunk = chunk; inherited = input.inherited; purpose = input.purpose }

-- the records behind this reading of one
abbrev pub reads_on : Input → List Record → Read Record → Outcome
reads_on input before reading = after_record reading before (λ records at. records_from (most_records input.chunk.payload) input records at)

-- whatever the chunk may become, its records are those that were read, and what is read from here on
pub record Follows (later : Input) (before : List Record) (at : Coder) (rest : Read Record) : Type 0 where
  pub same : records_of later ≡ reads_on later before rest
  pub less : room later.chunk.payload at.place ≤ room later.chunk.payload None

pub record Continues (input : Input) (rest : Input → List Record → List ℕ → Coder → Read Record) (stands : List Record → Coder → Type 0)
    (library : Library) (picture : Option Picture) (units : ℕ) : Type 0 where
  pub before : List Record
  pub text : List ℕ
  pub at : Coder
  pub sound : IsSound input.chunk at
  pub goes : (later : Chunk) → Becomes input.chunk later → Follows (with_chunk input later) before at (rest (with_chunk input later) before text at)
  pub stands_there : stands before at
  pub keeps : Keeps input before library
  pub draws : Draws input before picture
  pub count : TicksExactly (length before) 0 units

-- a step waits there with its reader, or stands there
abbrev pub Waits : Input → Step → Parts → List Record → Coder → Type 0
Waits input (step.Number place reader) parts before at =
    HalfNumber input.chunk (root_of place) (low_of place) (most_of input.inherited before place) at reader parts
Waits input (step.Direct kept reader) parts before at = HalfShape input.chunk None reader.shape.width reader.shape.height at reader parts
Waits input (step.Refined kept number reader) parts before at =
    HalfShape input.chunk (Some reader.matched) reader.sketch.shape.width reader.sketch.shape.height at reader.sketch parts
    × (reader.matched ≡ numbered input before number)
Waits input other parts before at = Stands input.chunk at parts

-- the reading stands at a step
abbrev pub Holds : Input → Step → Machine → Type 0
Holds input at machine =
    Continues input (λ later before text place. rest_of later before text at place)
    (λ before place. Waits input at machine.coder before place) machine.library machine.picture machine.units

-- it stands before this rest of a record
abbrev pub Stays : Input → (Input → List Record → List ℕ → Coder → Read Record) → Machine → Type 0
Stays input rest machine = Continues input rest (λ before at. Stands input.chunk at machine.coder) machine.library machine.picture machine.units

-- a record was read, and kept and drawn; it isn't counted yet
pub record Adds (input : Input) (machine : Machine) : Type 0 where
  pub before : List Record
  pub entry : Record
  pub at : Coder
  pub goes : (later : Chunk) → Becomes input.chunk later → Follows (with_chunk input later) before at (Got entry at)
  pub stands : Stands input.chunk at machine.coder
  pub keeps : Keeps input (entry ∷ before) machine.library
  pub draws : Draws input (entry ∷ before) machine.picture
  pub count : TicksExactly (length before) 0 machine.units
  pub others : is_end entry ≡ false

-- this is answered, with its counts
pub record Answers (input : Input) (told : Jb2Step) (machine : Machine) : Type 0 where
  pub same : (records_of input).answer ≡ told
  pub units : TicksExactly (length (records_of input).records) 0 machine.units
  pub decisions : TicksExactly (records_of input).decisions 0 machine.coder.count

-- and library and picture are those of the records
pub record Finishes (input : Input) (machine : Machine) : Type 0 where
  pub answers : Answers input answer.Finished machine
  pub keeps : Keeps input (records_of input).records machine.library
  pub draws : Draws input (records_of input).records machine.picture

-- what keeps the reading from going on
abbrev pub HaltsAt : Input → Halt → Machine → Type 0
HaltsAt input (halt.NeedBytes waits) machine = Holds input waits machine × Answers input answer.NeedBytes machine
HaltsAt input (halt.OutOfMemory waits) machine = Holds input waits machine
HaltsAt input (halt.Refused kind) machine = Answers input (answer.Refused kind) machine
HaltsAt input halt.Finished machine = Finishes input machine

-- what a step comes to
abbrev pub Moves : Input → Result Step Halt → Machine → Type 0
Moves input (Ok next) machine = Holds input next machine
Moves input (Err halts) machine = HaltsAt input halts machine

abbrev pub HaltFits : Halt → Library → Option Picture → Type 0
HaltFits (halt.NeedBytes waits) library picture = Fits waits library picture
HaltFits (halt.OutOfMemory waits) library picture = Fits waits library picture
HaltFits (halt.Refused kind) library picture = Unit {0}
HaltFits halt.Finished library picture = IsPictured library picture × (library.started ≡ true)

abbrev pub ResultFits : Result Step Halt → Library → Option Picture → Type 0
ResultFits (Ok next) library picture = Fits next library picture
ResultFits (Err halts) library picture = HaltFits halts library picture

-- the white picture of a mask, and none of a dictionary
abbrev pub IsBlankFor : Purpose → Option Picture → Type 0
IsBlankFor Dictionary None = Unit {0}
IsBlankFor Dictionary (Some picture) = ⊥
IsBlankFor (Mask width height) None = ⊥
IsBlankFor (Mask width height) (Some picture) =
    (input : Input) (before : List Record) (flag : Bool) → input.purpose ≡ Mask width height → IsBlank input before → Shows input
    (Start width height flag ∷ before) picture

-- no step counts less, makes room, or changes what is read
abbrev pub IsLater : Machine → Machine → Type 0
IsLater old new =
    (old.coder.count ≤ new.coder.count) × (old.units ≤ new.units) × (room_of new.coder.unread new.coder.zp ≤ room_of old.coder.unread old.coder.zp)
    × (new.coder.zp.table ≡ old.coder.zp.table) × (new.coder.unread.ended ≡ old.coder.unread.ended)
    × (new.library.inherited ≡ old.library.inherited) × (new.library.purpose ≡ old.library.purpose)

-- ---- what functions compute

abbrev pub halt_of : Stop → Step → Halt
halt_of stop.NeedBytes waits = halt.NeedBytes waits
halt_of (stop.Refused kind) waits = halt.Refused kind
halt_of stop.OutOfMemory waits = halt.OutOfMemory waits

-- the first number behind a type, if there is one
abbrev pub first_field : RecordType → Option Field
first_field type.Start = Some field.StartWidth
first_field type.MarkBoth = Some (field.OwnWidth use_of.Both)
first_field type.MarkLibrary = Some (field.OwnWidth use_of.Library)
first_field type.MarkImage = Some (field.OwnWidth use_of.Image)
first_field type.RefineBoth = Some (field.Match (reference.Refine use_of.Both))
first_field type.RefineLibrary = Some (field.Match (reference.Refine use_of.Library))
first_field type.RefineImage = Some (field.Match (reference.Refine use_of.Image))
first_field type.Copy = Some (field.Match reference.Copy)
first_field type.Plain = Some (field.OwnWidth use_of.Plain)
first_field type.Require = Some field.InheritedCount
first_field type.Comment = Some field.CommentLength
first_field type.End = None

-- sides that pass a check, or its fault
abbrev pub SizesOf : Option FaultKind → ℤ → ℤ → Result (ℕ × ℕ) FaultKind → Type 0
SizesOf found width height (Ok size) = (found ≡ None) × (size.0 ≡ unsigned width) × (size.1 ≡ unsigned height)
SizesOf found width height (Err kind) = found ≡ Some kind

-- ---- how long the reading goes on

-- how many steps may follow in a record, at most; the type of a record, once some of its decisions were read, has the most
abbrev pub field_rank : Field → ℕ
field_rank field.Kind = 0x1_ffff_ffff
field_rank field.StartWidth = 9
field_rank (field.StartHeight width) = 8
field_rank (field.OwnWidth kept) = 19
field_rank (field.OwnHeight kept width) = 18
field_rank (field.Match goal) = 24
field_rank (field.BesideWidth kept number) = 23
field_rank (field.BesideHeight kept number wider) = 22
field_rank (field.Dx moved is_new) = 13
field_rank (field.Dy moved is_new dx) = 12
field_rank (field.Left shape) = 14
field_rank (field.Top shape left) = 13
field_rank field.InheritedCount = 1
field_rank field.CommentLength = 0x1_0000_0001
field_rank (field.CommentByte left) = left + 1

abbrev pub number_rank : Field → List Bool → ℕ
number_rank field.Kind [] = 0
number_rank place decisions = field_rank place

abbrev pub rank_of : Step → ℕ
rank_of (step.Number place reader) = number_rank place reader.decisions
rank_of (step.Flag width height) = 7
rank_of (step.Row moved) = 14
rank_of (step.Own kept width height) = 17
rank_of (step.Direct kept reader) = 16
rank_of (step.Beside kept number width height) = 21
rank_of (step.Refined kept number reader) = 20
rank_of (step.Shape made kept shape) = 15
rank_of (step.Start width height flag) = 6
rank_of (step.Keep made shape) = 1
rank_of (step.Place moved steps) = 11

-- room for decisions first, and then steps
abbrev pub measure_of : Step → Parts → ℕ
measure_of at parts = room_of parts.unread parts.zp * 0x2_0000_0000 + rank_of at

-- it goes on to a step of a lower rank
abbrev pub IsBelow : ℕ → Result Step Halt → Type 0
IsBelow rank (Ok next) = rank_of next < rank
IsBelow rank (Err halts) = Unit {0}
