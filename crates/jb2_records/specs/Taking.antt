-- How a decoder, and the bytes of its chunk that it hasn't taken, stand to the chunk.
use Rattle.std.specs.Prelude.{◌≡◌, ◌≢◌, ℕ, ◌+◌, ◌*◌, ℤ, Bool, false, List, ◌++◌, length, Option, Some, None}
use Rattle.djvu_base.specs.Meter.{TicksExactly}
use Rattle.zp_table.specs.Rows.{IsTable}
use Rattle.zp_decoder.specs.declared.decoder.Decision.{Decision}
use Rattle.zp_decoder.specs.Decision.{Interval, Adaptive, outcome_of, counted}
use Rattle.zp_decoder.specs.Runs.{IsStanding}
use Rattle.zp_decoder.specs.Decoder.{Decoder, Fed, is_all, room_left}
use Rattle.zp_decoder.specs.Chunk.{Chunk, chunk, IsReady}
use Rattle.zp_decoder.specs.States.{States}
use Rattle.bit_plane.specs.Pixels.{Pixels, blank}
use Rattle.bit_plane.specs.Ink.{ink_box_of}
use Rattle.jb2_numbers.specs.declared.reader.NumberStep.{NumberStep}
use Rattle.jb2_numbers.specs.declared.reader.NumberStep.TheVariants as step
use Rattle.jb2_numbers.specs.Kept.{Numbers, states_of}
use Rattle.jb2_numbers.specs.Contexts.{Name}
use Rattle.jb2_numbers.specs.Number as numbers
use Rattle.jb2_numbers.specs.Number.{Wanted, begun, steps, read_on, answer_at, ArePossible}
use Rattle.jb2_numbers.specs.Reader as reading
use Rattle.jb2_numbers.specs.Reader.{Reader, step_of}
use Rattle.jb2_shapes.specs.declared.steps.ShapeStep.{ShapeStep}
use Rattle.jb2_shapes.specs.declared.steps.ShapeStep.TheVariants as shape
use Rattle.jb2_shapes.specs.Shape as shapes
use Rattle.jb2_shapes.specs.Shape.{Sketch, Progress, progress, direct_context, reading_of, IsWhole}
use Rattle.jb2_shapes.specs.Steps.{Reads}
use Rattle.jb2_shapes.specs.Refined.{refined_context, column_shift, row_shift}

-- the bytes so far that a decoder hasn't taken, and whether they end the chunk
pub record Unread : Type 0 where
  pub left : List ℕ
  pub ended : Bool

-- a decoder is told the end once nothing is left
pub record Feeds (unread : Unread) (zp : Decoder) : Type 0 where
  pub table : IsTable zp.table
  pub told : zp.ended ≡ is_all unread.left unread.ended

-- a decoder stands at this place of a chunk, and took all of it but what is left
pub record Takes (source : Chunk) (place : Option Interval) (unread : Unread) (zp : Decoder) : Type 0 where
  pub taken : List ℕ
  pub payload : taken ++ unread.left ≡ source.payload
  pub fed : Fed taken place zp
  pub standing : IsStanding (length taken) place
  pub table : zp.table ≡ source.table
  pub ended : unread.ended ≡ source.ended

-- a decoder took some bytes more
pub record TakesMore (old new : Unread) (zp next : Decoder) : Type 0 where
  pub more : List ℕ
  pub left : more ++ new.left ≡ old.left
  pub fed : (payload : List ℕ) (place : Option Interval) → Fed payload place zp → Fed (payload ++ more) place next
  pub standing : (payload : List ℕ) (place : Option Interval) → Fed payload place next → IsStanding (length payload) place
  pub table : next.table ≡ zp.table
  pub ended : new.ended ≡ old.ended

-- how many bits can still be decided, at most, with all bytes so far
abbrev pub room_of : Unread → Decoder → ℕ
room_of unread zp = room_left zp + 0x40000 * length unread.left

-- a chunk with these bytes behind the ones so far
abbrev pub with_bytes : Chunk → List ℕ → Bool → Chunk
with_bytes from more ended = chunk from.table (from.payload ++ more) ended

-- what the bytes to come may make of a chunk: once it ended, nothing else
pub data Becomes (from later : Chunk) : Type 0 where
  stays : later ≡ from → Becomes from later
  grows : from.ended ≡ false → (more : List ℕ) → (ended : Bool) → later ≡ with_bytes from more ended → Becomes from later

-- a bit was decided in a context, as the chunk has it
pub record Decides (source : Chunk) (place : Option Interval) (state count : ℕ) (given : Decision) (next : ℕ) (unread : Unread) (zp : Decoder)
    (later : ℕ) : Type 0 where
  pub answer : given ≡ (outcome_of source.table (Adaptive state) source.payload source.ended place).answer
  pub context : next ≡ (outcome_of source.table (Adaptive state) source.payload source.ended place).state
  pub takes : Takes source (outcome_of source.table (Adaptive state) source.payload source.ended place).place unread zp
  pub ticks : later ≡ counted given count

-- what a reader of numbers did
pub record Advances (old new : Reader) (contexts next_contexts : Numbers) (zp next : Decoder) (count later : ℕ) (given : NumberStep) : Type 0 where
  pub answer : (wanted : Wanted) (from : Chunk) (before : ℕ) (at : numbers.Reading) → given ≢ step.OutOfMemory →
      reading.Stands wanted from before at old contexts zp count → given ≡ step_of (answer_at wanted from (read_on wanted from at))
  pub stands : (wanted : Wanted) (from : Chunk) (before : ℕ) (at : numbers.Reading) → given ≢ step.OutOfMemory →
      reading.Stands wanted from before at old contexts zp count → reading.Stands wanted from before (read_on wanted from at) new next_contexts next later
  pub out_of_memory : (wanted : Wanted) (from : Chunk) (before : ℕ) (at : numbers.Reading) → given ≡ step.OutOfMemory →
      reading.Stands wanted from before at old contexts zp count →
      ((count : ℕ) × reading.Stands wanted from before (steps count wanted from at) new next_contexts next later)
  pub standing : (payload : List ℕ) (place : Option Interval) → Fed payload place next → IsStanding (length payload) place
  pub table : next.table ≡ zp.table
  pub ended : next.ended ≡ zp.ended

-- a number was begun with these states at this place, and its reader stands behind some of its decisions: with whatever
-- comes behind the bytes taken, what is read from here on is what is read from the beginning
pub record Pends (wanted : Wanted) (source : Chunk) (before : ℕ) (states : Name → ℕ) (place : Option Interval) (reader : Reader)
    (contexts : Numbers) (unread : Unread) (zp : Decoder) (count : ℕ) : Type 0 where
  pub at : numbers.Reading
  pub takes : Takes source at.place unread zp
  pub stands : reading.Stands wanted (chunk source.table takes.taken zp.ended) before at reader contexts zp count
  pub possible : ArePossible wanted at.decisions
  pub ready : IsReady (chunk source.table takes.taken zp.ended) at.states at.place
  pub goes : (later : Chunk) → Becomes (chunk source.table takes.taken zp.ended) later → read_on wanted later at ≡ read_on wanted later (begun states place)

-- a number was read as far as it goes, as the chunk has it
pub record Counts (wanted : Wanted) (source : Chunk) (before : ℕ) (states : Name → ℕ) (place : Option Interval) (told : NumberStep)
    (contexts : Numbers) (unread : Unread) (zp : Decoder) (count : ℕ) : Type 0 where
  pub answer : told ≡ step_of (answer_at wanted source (read_on wanted source (begun states place)))
  pub states_are : states_of contexts ≡ (read_on wanted source (begun states place)).states
  pub takes : Takes source (read_on wanted source (begun states place)).place unread zp
  pub ticks : TicksExactly (read_on wanted source (begun states place)).coded before count

-- the contexts of the pixels of a direct shape, or of one of this size that refines a matched one
abbrev pub context_of : Option Pixels → ℕ → ℕ → Pixels → ℤ → ℤ → List Bool
context_of None width height = direct_context
context_of (Some matched) width height =
    refined_context matched (column_shift (blank width height) (ink_box_of matched)) (row_shift (blank width height) (ink_box_of matched))

-- this is the matched shape, if there is one, and the size
pub record IsOf (matched : Option Pixels) (width height : ℕ) (given : Option Pixels) (sketch : Sketch) : Type 0 where
  pub same : given ≡ matched
  pub columns : sketch.shape.width ≡ width
  pub rows : sketch.shape.height ≡ height

-- what a reader of a shape did, whose pixels have these contexts
pub record Sketches (context : Pixels → ℤ → ℤ → List Bool) (zp next : Decoder) (sketch new_sketch : Sketch) (states new_states : States)
    (told : ShapeStep) : Type 0 where
  pub reads : (payload : List ℕ) (place : Option Interval) → Fed payload place zp →
      Reads context zp.table payload zp.ended (progress sketch states place) told new_sketch new_states next
  pub standing : (payload : List ℕ) (place : Option Interval) → Fed payload place next → IsStanding (length payload) place
  pub table : next.table ≡ zp.table
  pub ended : next.ended ≡ zp.ended
  pub done : told ≡ shape.Done → IsWhole new_sketch

-- a shape was begun at this start, and some of its pixels were read: with whatever comes behind the bytes taken, what is read
-- from here on is what is read from the start
pub record DrawsOn (context : Pixels → ℤ → ℤ → List Bool) (source : Chunk) (start : Progress) (sketch : Sketch) (states : States) (unread : Unread)
    (zp : Decoder) : Type 0 where
  pub place : Option Interval
  pub takes : Takes source place unread zp
  pub ready : IsReady (chunk source.table takes.taken zp.ended) states place
  pub goes : (later : Chunk) → Becomes (chunk source.table takes.taken zp.ended) later →
      reading_of context later.table later.payload later.ended (progress sketch states place) ≡
      reading_of context later.table later.payload later.ended start

-- a shape was read as far as it goes, as the chunk has it
pub record HasDrawn (reading : shapes.Reading) (source : Chunk) (told : ShapeStep) (sketch : Sketch) (states : States) (unread : Unread)
    (zp : Decoder) : Type 0 where
  pub answer : told ≡ reading.answer
  pub sketch_is : sketch ≡ reading.at.sketch
  pub states_are : states ≡ reading.at.states
  pub takes : Takes source reading.at.place unread zp
