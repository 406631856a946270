-- How a reader that went on stands to the definition.
use Rattle.std.specs.Prelude.{◌≡◌, ℕ, ◌-◌, ◌≤◌, Bool, List, length, Option, ℤ}
use Rattle.djvu_base.specs.Meter.{TicksExactly}
use Rattle.zp_table.specs.declared.rows.Row.{Row}
use Rattle.zp_decoder.specs.Decision.{Interval}
use Rattle.zp_decoder.specs.Decoder.{Decoder, Fed, room_left}
use Rattle.bit_plane.specs.Pixels.{Pixels}
use Rattle.jb2_shapes.specs.declared.steps.ShapeStep.{ShapeStep}
use Rattle.zp_decoder.specs.States.{States, AreBelow}
use Rattle.jb2_shapes.specs.Shape.{Sketch, Progress, Reading, progress, reading_of}

-- the answer, shape, contexts and decoder that a reading gives
pub record IsReading (reading : Reading) (payload : List ℕ) (told : ShapeStep) (new_sketch : Sketch) (new_states : States) (zp : Decoder) : Type 0 where
  pub answer : told ≡ reading.answer
  pub sketch : new_sketch ≡ reading.at.sketch
  pub states : new_states ≡ reading.at.states
  pub fed : Fed payload reading.at.place zp

abbrev pub Reads : (Pixels → ℤ → ℤ → List Bool) → List Row → List ℕ → Bool → Progress → ShapeStep → Sketch → States → Decoder → Type 0
Reads context rows payload ended start answer sketch states zp =
    IsReading (reading_of context rows payload ended start) payload answer sketch states zp

-- what a reader does from here on is what it does from its start on
pub record GoesOn (context : Pixels → ℤ → ℤ → List Bool) (rows : List Row) (payload : List ℕ) (ended : Bool) (start : Progress) (sketch : Sketch) (states : States) (zp : Decoder) : Type 0 where
  pub place : Option Interval
  pub fed : Fed payload place zp
  pub same : reading_of context rows payload ended start ≡ reading_of context rows payload ended (progress sketch states place)

-- the size is the same, and the meter counted each pixel that was read
pub record Counts (count : ℕ) (sketch : Sketch) (new_count : ℕ) (new_sketch : Sketch) : Type 0 where
  pub width : new_sketch.shape.width ≡ sketch.shape.width
  pub height : new_sketch.shape.height ≡ sketch.shape.height
  pub grows : sketch.number ≤ new_sketch.number
  pub ticks : TicksExactly (new_sketch.number - sketch.number) count new_count

-- what a loop over pixels keeps
pub record Keeps (context : Pixels → ℤ → ℤ → List Bool) (old : Decoder) (old_sketch : Sketch) (old_states : States) (old_count : ℕ)
    (new : Decoder) (new_sketch : Sketch) (new_states : States) (new_count : ℕ) : Type 0 where
  pub goes_on : (payload : List ℕ) (place : Option Interval) → Fed payload place old →
      GoesOn context old.table payload old.ended (progress old_sketch old_states place) new_sketch new_states new
  pub table : new.table ≡ old.table
  pub ended : new.ended ≡ old.ended
  pub below : AreBelow (length new.table) new_states
  pub room : room_left new ≤ room_left old
  pub counts : Counts old_count old_sketch new_count new_sketch
