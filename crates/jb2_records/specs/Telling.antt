-- How a coder stands to the definitions, and what it answers.
use Rattle.std.specs.Prelude.{◌≡◌, ℕ, ◌+◌, ◌<◌, ◌≤◌, ℤ, Bool, length, Option, Some, None, Result, Ok, Err}
use Rattle.djvu_base.specs.Meter.{ticked, TicksExactly}
use Rattle.djvu_base.specs.declared.faults.FaultKind.TheVariants as fault
use Rattle.zp_decoder.specs.declared.decoder.Decision.{Decision}
use Rattle.zp_decoder.specs.declared.decoder.Decision.TheVariants as decision
use Rattle.zp_decoder.specs.Decoder.{Decoder}
use Rattle.zp_decoder.specs.Chunk.{Chunk}
use Rattle.zp_decoder.specs.States.{AreBelow}
use Rattle.bit_plane.specs.Pixels.{Pixels}
use Rattle.jb2_numbers.specs.declared.roots.Root.{Root}
use Rattle.jb2_numbers.specs.declared.reader.NumberStep.{NumberStep}
use Rattle.jb2_numbers.specs.declared.reader.NumberStep.TheVariants as number
use Rattle.jb2_numbers.specs.Kept as numbers
use Rattle.jb2_numbers.specs.Kept.{Numbers}
use Rattle.jb2_numbers.specs.Number.{wanted}
use Rattle.jb2_numbers.specs.Reader.{AreBounds, Reader}
use Rattle.jb2_shapes.specs.declared.steps.ShapeStep.{ShapeStep}
use Rattle.jb2_shapes.specs.declared.steps.ShapeStep.TheVariants as shape
use Rattle.jb2_shapes.specs.Numbers as cells
use Rattle.jb2_shapes.specs.Numbers.{Cells}
use Rattle.jb2_shapes.specs.Shape.{Sketch, progress, empty_sketch}
use Rattle.jb2_records.specs.declared.stops.Stop.{Stop}
use Rattle.jb2_records.specs.declared.stops.Stop.TheVariants as stop
use Rattle.jb2_records.specs.Taking.{Unread, Feeds, Takes, Pends, context_of, DrawsOn}
use Rattle.jb2_records.specs.Coding.{Coder, Why, Need, Wrong, Read, Got, Stops, read_direct, read_refined}
use Rattle.jb2_records.specs.Growth.{IsSound}

-- the parts of a coder: a decoder, the bytes that it hasn't taken, the contexts, and the count of decisions
pub record Parts : Type 0 where
  pub zp : Decoder
  pub unread : Unread
  pub numbers : Numbers
  pub pixels : Cells
  pub flag : ℕ
  pub row : ℕ
  pub count : ℕ

-- the decoder is told the end in time, and each state is a row of its table
pub record IsReady (parts : Parts) : Type 0 where
  pub feeds : Feeds parts.unread parts.zp
  pub numbers : AreBelow (length parts.zp.table) (numbers.states_of parts.numbers)
  pub pixels : AreBelow (length parts.zp.table) (cells.states_of parts.pixels)
  pub flag : parts.flag < length parts.zp.table
  pub row : parts.row < length parts.zp.table

-- ---- where a coder stands

-- the parts stand where the reading of a chunk stands
pub record Stands (source : Chunk) (at : Coder) (parts : Parts) : Type 0 where
  pub numbers : numbers.states_of parts.numbers ≡ at.numbers
  pub pixels : cells.states_of parts.pixels ≡ at.pixels
  pub flag : parts.flag ≡ at.flag
  pub row : parts.row ≡ at.row
  pub takes : Takes source at.place parts.unread parts.zp
  pub count : TicksExactly at.decisions 0 parts.count
  pub sound : IsSound source at

-- a number from low to high was begun there, and its reader stands with the parts behind some of its decisions
pub record HalfNumber (source : Chunk) (root : Root) (low high : ℤ) (at : Coder) (reader : Reader) (parts : Parts) : Type 0 where
  pub bounds : AreBounds low high
  pub pends : Pends (wanted root low high) source (ticked at.decisions 0) at.numbers at.place reader parts.numbers parts.unread parts.zp parts.count
  pub feeds : Feeds parts.unread parts.zp
  pub pixels : cells.states_of parts.pixels ≡ at.pixels
  pub flag : parts.flag ≡ at.flag
  pub row : parts.row ≡ at.row
  pub sound : IsSound source at

-- a shape was begun there, a direct one or one that refines a matched one, and this much of it was read
pub record HalfShape (source : Chunk) (matched : Option Pixels) (width height : ℕ) (at : Coder) (sketch : Sketch) (parts : Parts) : Type 0 where
  pub draws : DrawsOn (context_of matched width height) source (progress (empty_sketch width height) at.pixels at.place) sketch
      (cells.states_of parts.pixels) parts.unread parts.zp
  pub feeds : Feeds parts.unread parts.zp
  pub columns : sketch.shape.width ≡ width
  pub rows : sketch.shape.height ≡ height
  pub numbers : numbers.states_of parts.numbers ≡ at.numbers
  pub flag : parts.flag ≡ at.flag
  pub row : parts.row ≡ at.row
  pub count : TicksExactly (at.decisions + sketch.number) 0 parts.count
  pub sound : IsSound source at

-- what is read then
abbrev pub read_shape : Chunk → Option Pixels → ℕ → ℕ → Coder → Read Pixels
read_shape source None width height at = read_direct source width height at
read_shape source (Some matched) width height at = read_refined source matched width height at

-- ---- what a coder answers

-- what a decision, the reading of a number and that of a shape answer
abbrev pub bit_result : Decision → Result Bool Stop
bit_result (decision.Bit bit) = Ok bit
bit_result decision.NeedBytes = Err stop.NeedBytes
bit_result decision.Exhausted = Err (stop.Refused fault.ZpExhausted)

abbrev pub number_result : NumberStep → Result ℤ Stop
number_result (number.Number value) = Ok value
number_result number.NeedBytes = Err stop.NeedBytes
number_result number.Exhausted = Err (stop.Refused fault.ZpExhausted)
number_result number.OutOfMemory = Err stop.OutOfMemory

abbrev pub shape_result : ShapeStep → Result (Unit {0}) Stop
shape_result shape.Done = Ok tt
shape_result shape.NeedBytes = Err stop.NeedBytes
shape_result shape.Exhausted = Err (stop.Refused fault.ZpExhausted)

-- this was read, and the parts stand behind it
pub record Comes {A : Type 0} (source : Chunk) (told : Read A) (value : A) (parts : Parts) : Type 0 where
  pub next : Coder
  pub got : told ≡ Got value next
  pub stands : Stands source next parts

-- this keeps the chunk from being read on
pub record IsStopped {A : Type 0} (told : Read A) (why : Why) (parts : Parts) : Type 0 where
  pub decisions : ℕ
  pub stops : told ≡ Stops why decisions
  pub count : TicksExactly decisions 0 parts.count

-- how many decisions there are, whatever was read
abbrev pub decisions_of : {A : Type 0} → Read A → ℕ
decisions_of (Got value next) = next.decisions
decisions_of (Stops why decisions) = decisions

-- no more decisions were counted than the definition has
abbrev pub IsWithin : {A : Type 0} → Read A → Parts → Type 0
IsWithin told parts = parts.count ≤ ticked (decisions_of told) 0

-- what was answered is what the definition reads, the value seen by this view; or the question waits, as this says, for bytes
-- or for memory
abbrev pub Goes : {A R : Type 0} → (R → A) → Chunk → Read A → Type 0 → Result R Stop → Parts → Type 0
Goes view source told waits (Ok value) parts = Comes source told (view value) parts
Goes view source told waits (Err stop.NeedBytes) parts = IsStopped told Need parts × waits
Goes view source told waits (Err (stop.Refused kind)) parts = IsStopped told (Wrong kind) parts
Goes view source told waits (Err stop.OutOfMemory) parts = IsWithin told parts × waits

-- the same for a shape, which its reader has then
abbrev pub GoesShape : Chunk → Pixels → Read Pixels → Type 0 → Result (Unit {0}) Stop → Parts → Type 0
GoesShape source shape told waits result parts = Goes (λ done. shape) source told waits result parts

-- what more bytes of a chunk, or its end, leave of where a coder stands
pub record Grows (source later : Chunk) (old new : Parts) : Type 0 where
  pub stands : (at : Coder) → Stands source at old → Stands later at new
  pub number : (root : Root) (low high : ℤ) (at : Coder) (reader : Reader) → HalfNumber source root low high at reader old →
      HalfNumber later root low high at reader new
  pub shape : (matched : Option Pixels) (width height : ℕ) (at : Coder) (sketch : Sketch) → HalfShape source matched width height at sketch old →
      HalfShape later matched width height at sketch new
