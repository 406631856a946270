-- How a reader of numbers, the contexts, a decoder and a meter stand to the definition.
use Rattle.std.specs.Prelude.{◌≡◌, ℕ, ◌≤ℤ◌, ℤ, pos, negsuc, Bool, List}
use Rattle.djvu_base.specs.Meter.{TicksExactly}
use Rattle.zp_decoder.specs.Chunk.{Chunk}
use Rattle.zp_decoder.specs.Decoder.{Decoder, Fed}
use Rattle.jb2_numbers.specs.declared.reader.NumberStep.{NumberStep}
use Rattle.jb2_numbers.specs.declared.reader.NumberStep.TheVariants as told
use Rattle.jb2_numbers.specs.declared.roots.Root.{Root}
use Rattle.jb2_numbers.specs.Answer.{Answer}
use Rattle.jb2_numbers.specs.Answer as answer
use Rattle.jb2_numbers.specs.Kept.{Numbers, states_of}
use Rattle.jb2_numbers.specs.Phases.{Phase}
use Rattle.jb2_numbers.specs.Number.{Wanted, Reading, phase_after, step, answer_at, ArePossible}

-- low and high are bounds of a number
pub record AreBounds (low high : ℤ) : Type 0 where
  pub order : low ≤ℤ high
  pub least : negsuc 262142 ≤ℤ low
  pub most : high ≤ℤ pos 262142

-- what only the reader itself reads
pub record Reader : Type 0 where
  pub root : Root
  pub decisions : List Bool
  pub phase : Phase

-- the reader has read these decisions of this number, the last one first
unfoldable pub Reads : Wanted → List Bool → Reader → Type 0
Reads wanted decisions reader = (reader.root ≡ wanted.root) × (reader.decisions ≡ decisions) × (reader.phase ≡ phase_after wanted decisions)

-- reader, contexts, decoder and meter stand where the definition stands, with the ticks since this count
pub record Stands (wanted : Wanted) (chunk : Chunk) (before : ℕ) (reading : Reading) (reader : Reader) (contexts : Numbers) (zp : Decoder)
    (count : ℕ) : Type 0 where
  pub reads : Reads wanted reading.decisions reader
  pub states : states_of contexts ≡ reading.states
  pub fed : Fed chunk.payload reading.place zp
  pub table : zp.table ≡ chunk.table
  pub ended : zp.ended ≡ chunk.ended
  pub ticks : TicksExactly reading.coded before count

-- what a reader answers, by what the reading comes to; want of memory is none of it
abbrev pub step_of : Answer → NumberStep
step_of (answer.Number value) = told.Number value
step_of answer.NeedBytes = told.NeedBytes
step_of answer.Exhausted = told.Exhausted

-- where a reading ends: no decision follows, and this is the answer
pub record Ends (wanted : Wanted) (chunk : Chunk) (reading : Reading) (end : NumberStep) : Type 0 where
  pub last : step wanted chunk reading ≡ reading
  pub answer : step_of (answer_at wanted chunk reading) ≡ end

-- the reader has read some decisions of this number, which the bounds allow
abbrev pub IsUnderway : Wanted → Reader → Type 0
IsUnderway wanted reader = (decisions : List Bool) × (Reads wanted decisions reader × ArePossible wanted decisions)

-- a number that is answered lies within its bounds; and whatever is answered, the reader can go on
pub record StaysWithin (wanted : Wanted) (given : NumberStep) (reader : Reader) : Type 0 where
  pub value : (value : ℤ) → given ≡ told.Number value → (wanted.low ≤ℤ value) × (value ≤ℤ wanted.high)
  pub goes : IsUnderway wanted reader
