-- How a reader of records stands to the bytes that it was fed.
use Rattle.std.specs.Prelude.{◌≡◌, ◌≢◌, ℕ, Bool, true, List, Option, Some, None}
use Rattle.zp_table.specs.declared.rows.Row.{Row}
use Rattle.zp_table.specs.Rows.{IsTable}
use Rattle.bit_plane.specs.Pixels.{Pixels}
use Rattle.zp_decoder.specs.Chunk.{chunk}
use Rattle.jb2_records.specs.declared.reader.Jb2Step.{Jb2Step}
use Rattle.jb2_records.specs.declared.reader.Jb2Step.TheVariants as answer
use Rattle.jb2_records.specs.declared.machine.Machine.{Machine}
use Rattle.jb2_records.specs.declared.machine.Halt.{Halt}
use Rattle.jb2_records.specs.declared.machine.Halt.TheVariants as halt
use Rattle.jb2_records.specs.declared.steps.Step.{Step}
use Rattle.jb2_records.specs.Reading.{Input, Purpose, Dictionary, Mask, records_of}
use Rattle.jb2_records.specs.Library.{Keeps}
use Rattle.jb2_records.specs.Picture.{Picture, Draws}
use Rattle.jb2_records.specs.Machine.{Fits, IsPictured, Holds, Answers}

-- what a reader reads by: the state table, the shapes of the dictionary in force, and what the records are for
pub record Source : Type 0 where
  pub table : List Row
  pub inherited : List Pixels
  pub purpose : Purpose

-- what only the reader itself reads: where it goes on, unless an answer stands, the last answer, and what the records so far
-- came to
pub record Kept : Type 0 where
  pub step : Option Step
  pub answer : Jb2Step
  pub machine : Machine

-- what contracts see of a reader: what it reads by, whether the chunk ended, the answer that it gives from now on, and how many
-- records and decisions it read
pub record ReaderState : Type 0 where
  pub source : Source
  pub ended : Bool
  pub answered : Option Jb2Step
  pub units : ℕ
  pub decisions : ℕ
  pub kept : Kept

-- what the definition reads, where the reader was fed these bytes of the chunk
abbrev pub input_of : ReaderState → List ℕ → Input
input_of reader payload = record {
  chunk = chunk reader.source.table payload reader.ended;
  inherited = reader.source.inherited;
  purpose = reader.source.purpose;
}

-- the answer that stands where there is no step
abbrev pub answered_by : Option Step → Jb2Step → Option Jb2Step
answered_by None told = Some told
answered_by (Some at) told = None

-- the state of what is kept
abbrev pub state_of : Kept → ReaderState
state_of kept = record {
  source = record {
    table = kept.machine.coder.zp.table;
    inherited = kept.machine.library.inherited;
    purpose = kept.machine.library.purpose;
  };
  ended = kept.machine.coder.unread.ended;
  answered = answered_by kept.step kept.answer;
  units = kept.machine.units;
  decisions = kept.machine.coder.count;
  kept = kept;
}

-- the answer that stands is the definition's, and so is what the records came to
pub record Settles (input : Input) (told : Jb2Step) (machine : Machine) : Type 0 where
  pub answers : Answers input told machine
  pub keeps : told ≡ answer.Finished → Keeps input (records_of input).records machine.library
  pub draws : told ≡ answer.Finished → Draws input (records_of input).records machine.picture

-- the reading stands at a step, or an answer stands
abbrev pub IsAt : Input → Option Step → Jb2Step → Machine → Type 0
IsAt input (Some at) told machine = Holds input at machine
IsAt input None told machine = Settles input told machine

-- the reader was fed this payload
unfoldable pub Fed : List ℕ → ReaderState → Type 0
Fed payload reader = IsAt (input_of reader payload) reader.kept.step reader.kept.answer reader.kept.machine

-- an answer that is given from then on
abbrev pub standing : Jb2Step → Option Jb2Step → Option Jb2Step
standing answer.Finished before = Some answer.Finished
standing answer.NeedBytes before = before
standing (answer.Refused kind) before = Some (answer.Refused kind)
standing answer.OutOfMemory before = before

-- an answer that may stand
abbrev pub IsFinal : Jb2Step → Type 0
IsFinal told = (told ≢ answer.NeedBytes) × (told ≢ answer.OutOfMemory)

-- what a reader keeps to: its table is one, its step fits what the records came to, and it was fed some payload
abbrev pub KeptFits : Option Step → Jb2Step → Machine → Type 0
KeptFits (Some at) told machine = Fits at machine.library machine.picture
KeptFits None told machine = IsFinal told × (told ≡ answer.Finished → IsPictured machine.library machine.picture × (machine.library.started ≡ true))

pub record IsHeld (kept : Kept) : Type 0 where
  pub table : IsTable kept.machine.coder.zp.table
  pub fits : KeptFits kept.step kept.answer kept.machine
  pub payload : List ℕ
  pub fed : Fed payload (state_of kept)

-- the answer where the reading halts, and the step where it goes on
abbrev pub answer_of : Halt → Jb2Step
answer_of (halt.NeedBytes at) = answer.NeedBytes
answer_of (halt.OutOfMemory at) = answer.OutOfMemory
answer_of (halt.Refused kind) = answer.Refused kind
answer_of halt.Finished = answer.Finished

abbrev pub step_of : Halt → Option Step
step_of (halt.NeedBytes at) = Some at
step_of (halt.OutOfMemory at) = Some at
step_of (halt.Refused kind) = None
step_of halt.Finished = None

-- a mask has a picture of its size
abbrev pub IsDrawnFor : Purpose → Option Picture → Type 0
IsDrawnFor Dictionary picture = Unit {0}
IsDrawnFor (Mask width height) None = ⊥
IsDrawnFor (Mask width height) (Some picture) = (picture.mask.width ≡ width) × (picture.mask.height ≡ height)

-- the records draw a mask
abbrev pub IsMask : Purpose → Type 0
IsMask Dictionary = ⊥
IsMask (Mask width height) = Unit {0}

abbrev pub IsForMask : ReaderState → Type 0
IsForMask reader = IsMask reader.source.purpose
