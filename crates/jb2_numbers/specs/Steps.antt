-- What the reader keeps to between decisions, and what a decision does.
use Rattle.std.specs.Prelude.{Option, Some, None, ◌≡◌, ◌≢◌, ℕ, ◌+◌, ◌*◌, ◌^◌, ◌≤◌, ◌==◌, ℤ, Bool, true, false, not, ◌&&◌, List, [], ◌∷◌, length, nat_lt, nat_le, int_le, IsTrue}
use Rattle.zp_decoder.specs.declared.decoder.Decision.{Decision}
use Rattle.zp_decoder.specs.declared.decoder.Decision.TheVariants as decision
use Rattle.zp_decoder.specs.Decision.{Adaptive, Interval, outcome_of}
use Rattle.zp_decoder.specs.Chunk.{Chunk}
use Rattle.zp_decoder.specs.Decoder.{Decoder, Fed}
use Rattle.jb2_numbers.specs.declared.reader.NumberStep.{NumberStep}
use Rattle.jb2_numbers.specs.declared.reader.NumberStep.TheVariants as told
use Rattle.jb2_numbers.specs.declared.paths.Path.{Path}
use Rattle.jb2_numbers.specs.Contexts.{Name, name, store}
use Rattle.jb2_numbers.specs.Kept.{Numbers, IsCell, states_of, state_in, decisions_in}
use Rattle.jb2_numbers.specs.Number.{Wanted, Reading, steps}
use Rattle.jb2_numbers.specs.Phases.{Phase, Sign, Doubling, Halving, Known, at_least, opposite, next_phase, is_known}
use Rattle.jb2_numbers.specs.Reader.{Reader, Stands, Ends}

-- one more than the highest bound of a number
unfoldable pub limit : ℕ
limit = 262143

-- bounds in order, the high one below the limit
abbrev pub is_bounded : ℤ → ℤ → Bool
is_bounded low high = int_le low high && not (at_least high limit)

-- what the phase after so many decisions keeps to
abbrev pub is_sound : ℕ → Phase → Bool
is_sound count (Sign low high) = (count == 0) && is_bounded low high && is_bounded (opposite high) (opposite low)
is_sound count (Doubling side cutoff) = nat_le 1 count && nat_le count 18 && (cutoff + 1 == 2 ^ count) && is_bounded side.low side.high
is_sound count (Halving side cutoff range) =
    nat_le 2 range && nat_le range cutoff && nat_le (cutoff + range) (2 ^ 19) && nat_le (range * 2 ^ count) (2 ^ 36) && is_bounded side.low side.high
is_sound count (Known value) = nat_le count 36

-- what a reader keeps to
abbrev pub IsSound : Path → Phase → Type 0
IsSound path phase = IsTrue (is_sound path.count phase && nat_lt path.bits (2 ^ path.count))

-- the decisions before the last one, and the last one
abbrev pub IsLast : Path → Option (Path × Bool) → Type 0
IsLast path None = decisions_in path ≡ []
IsLast path (Some (before, decision)) = (decisions_in path ≡ decision ∷ decisions_in before) × (path.count ≡ before.count + 1)

-- what a decision leaves of the reader
pub record Takes (old : Reader) (bit : Bool) (new : Reader) : Type 0 where
  pub root : new.root ≡ old.root
  pub decisions : new.decisions ≡ bit ∷ old.decisions
  pub phase : new.phase ≡ next_phase old.phase bit

-- the state of a cell
abbrev pub state_at : Numbers → ℕ → ℕ
state_at numbers at = state_in numbers.cells (Some at)

-- each cell is that of the same name
abbrev pub KeepsCells : Numbers → Numbers → Type 0
KeepsCells old new = (of : Name) (at : ℕ) → IsCell old of at → IsCell new of at

-- a decision more was read, and this is the cell of the next one
pub record IsNext (old new : Reader) (contexts : Numbers) (next : ℕ) : Type 0 where
  pub unknown : is_known new.phase ≡ false
  pub cell : IsCell contexts (name new.root new.decisions) next
  pub one : length new.decisions ≡ length old.decisions + 1
  pub few : length new.decisions ≤ 36

-- a bit that was decoded in the context of this cell: what the decoder gave, and where it stands then
pub record Decides (at : ℕ) (contexts : Numbers) (zp : Decoder) (bit : Bool) (contexts' : Numbers) (zp' : Decoder) : Type 0 where
  pub answers : (payload : List ℕ) (place : Option Interval) → Fed payload place zp →
      (outcome_of zp.table (Adaptive (state_at contexts at)) payload zp.ended place).answer ≡ decision.Bit bit
  pub feeds : (payload : List ℕ) (place : Option Interval) → Fed payload place zp →
      Fed payload (outcome_of zp.table (Adaptive (state_at contexts at)) payload zp.ended place).place zp'
  pub stores : (payload : List ℕ) (place : Option Interval) (of : Name) → Fed payload place zp → IsCell contexts of at →
      states_of contexts' ≡ store (states_of contexts) of (outcome_of zp.table (Adaptive (state_at contexts at)) payload zp.ended place).state

-- what keeps a bit from being decoded
abbrev pub decision_of : NumberStep → Option Decision
decision_of (told.Number value) = None
decision_of told.NeedBytes = Some decision.NeedBytes
decision_of told.Exhausted = Some decision.Exhausted
decision_of told.OutOfMemory = None

abbrev pub is_stop : NumberStep → Bool
is_stop (told.Number value) = false
is_stop told.NeedBytes = true
is_stop told.Exhausted = true
is_stop told.OutOfMemory = false

-- no bit was decoded
pub record Stops (at : ℕ) (contexts : Numbers) (zp : Decoder) (stop : NumberStep) : Type 0 where
  pub answers : (payload : List ℕ) (place : Option Interval) (given : Decision) → Fed payload place zp → decision_of stop ≡ Some given →
      (outcome_of zp.table (Adaptive (state_at contexts at)) payload zp.ended place).answer ≡ given
  pub kind : is_stop stop ≡ true

-- a step ends the reading, after one decision or none
pub record EndsBy (wanted : Wanted) (chunk : Chunk) (before : ℕ) (reading : Reading) (given : NumberStep) (old new : Reader) (contexts : Numbers)
    (zp : Decoder) (ticks : ℕ) : Type 0 where
  pub count : ℕ
  pub more : length new.decisions ≡ count + length old.decisions
  pub few : length new.decisions ≤ 36
  pub stands : Stands wanted chunk before (steps count wanted chunk reading) new contexts zp ticks
  pub ends : given ≢ told.OutOfMemory → Ends wanted chunk (steps count wanted chunk reading) given
