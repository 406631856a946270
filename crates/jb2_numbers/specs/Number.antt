-- Numbers of JB2 by the path of their decisions (DjVu 3 reference, JB2).
use Rattle.std.specs.Prelude.{ℕ, zero, suc, ℤ, Bool, List, [], ◌∷◌, Option, Some, None, IsTrue, ⊤}
use Rattle.zp_decoder.specs.declared.decoder.Decision.{Decision}
use Rattle.zp_decoder.specs.declared.decoder.Decision.TheVariants as decision
use Rattle.zp_decoder.specs.Decision.{Adaptive, Interval, Outcome, outcome_of}
use Rattle.zp_decoder.specs.Chunk.{Chunk}
use Rattle.jb2_numbers.specs.declared.roots.Root.{Root}
use Rattle.jb2_numbers.specs.Answer.{Answer}
use Rattle.jb2_numbers.specs.Answer as answer
use Rattle.jb2_numbers.specs.Contexts.{Name, name, store}
use Rattle.jb2_numbers.specs.Phases.{Phase, Sign, Doubling, Halving, Known, next_phase, implied, allows, decided}

-- which number is read: what it is, and its bounds
pub record Wanted : Type 0 where
  pub root : Root
  pub low : ℤ
  pub high : ℤ

-- the phase after these decisions, the last one first
abbrev pub phase_after : Wanted → List Bool → Phase
phase_after wanted [] = Sign wanted.low wanted.high
phase_after wanted (decision ∷ decisions) = next_phase (phase_after wanted decisions) decision

-- how far a number is read: its decisions, the last one first, the states of the contexts, where the decoder stands, and
-- how many decisions were coded
pub record Reading : Type 0 where
  pub decisions : List Bool
  pub states : Name → ℕ
  pub place : Option Interval
  pub coded : ℕ

-- no decision yet
abbrev pub begun : (Name → ℕ) → Option Interval → Reading
begun states place = record { decisions = []; states = states; place = place; coded = 0 }

-- a coded decision has the context whose name is the root and all decisions before it
abbrev pub name_at : Wanted → Reading → Name
name_at wanted reading = name wanted.root reading.decisions

abbrev pub next_coded : Wanted → Chunk → Reading → Outcome
next_coded wanted chunk reading = outcome_of chunk.table (Adaptive (reading.states (name_at wanted reading))) chunk.payload chunk.ended reading.place

abbrev pub with_implied : Reading → Bool → Reading
with_implied reading decision = record { decisions = decision ∷ reading.decisions; states = reading.states; place = reading.place; coded = reading.coded }

-- a coded decision that isn't decided changes nothing
abbrev pub with_coded : Reading → Name → Outcome → Decision → Reading
with_coded reading at outcome (decision.Bit bit) =
    record { decisions = bit ∷ reading.decisions; states = store reading.states at outcome.state; place = outcome.place; coded = suc reading.coded }
with_coded reading at outcome decision.NeedBytes = reading
with_coded reading at outcome decision.Exhausted = reading

abbrev pub with_next : Wanted → Chunk → Reading → Option Bool → Reading
with_next wanted chunk reading (Some decision) = with_implied reading decision
with_next wanted chunk reading None = with_coded reading (name_at wanted reading) (next_coded wanted chunk reading) (next_coded wanted chunk reading).answer

abbrev pub step_in : Wanted → Chunk → Reading → Phase → Reading
step_in wanted chunk reading (Sign low high) = with_next wanted chunk reading (implied (Sign low high))
step_in wanted chunk reading (Doubling side cutoff) = with_next wanted chunk reading (implied (Doubling side cutoff))
step_in wanted chunk reading (Halving side cutoff range) = with_next wanted chunk reading (implied (Halving side cutoff range))
step_in wanted chunk reading (Known value) = reading

-- one decision further, where there is one
abbrev pub step : Wanted → Chunk → Reading → Reading
step wanted chunk reading = step_in wanted chunk reading (phase_after wanted reading.decisions)

abbrev pub steps : ℕ → Wanted → Chunk → Reading → Reading
steps zero wanted chunk reading = reading
steps (suc count) wanted chunk reading = step wanted chunk (steps count wanted chunk reading)

-- no number has more decisions than these: a law says so
unfoldable pub most_decisions : ℕ
most_decisions = 36

-- as far as the bytes determine it
abbrev pub read_on : Wanted → Chunk → Reading → Reading
read_on wanted chunk reading = steps most_decisions wanted chunk reading

-- where it is not known yet, the next decision is coded, and this is what it answers
abbrev pub answer_without : Decision → Answer
answer_without (decision.Bit bit) = answer.NeedBytes
answer_without decision.NeedBytes = answer.NeedBytes
answer_without decision.Exhausted = answer.Exhausted

abbrev pub answer_in : Wanted → Chunk → Reading → Phase → Answer
answer_in wanted chunk reading (Sign low high) = answer_without (next_coded wanted chunk reading).answer
answer_in wanted chunk reading (Doubling side cutoff) = answer_without (next_coded wanted chunk reading).answer
answer_in wanted chunk reading (Halving side cutoff range) = answer_without (next_coded wanted chunk reading).answer
answer_in wanted chunk reading (Known value) = answer.Number value

-- the number that is known, or what keeps it from being read
abbrev pub answer_at : Wanted → Chunk → Reading → Answer
answer_at wanted chunk reading = answer_in wanted chunk reading (phase_after wanted reading.decisions)

-- what a reading from here on answers, and how many decisions of the number were coded then
abbrev pub answer_and_coded : Wanted → Chunk → Reading → Answer × ℕ
answer_and_coded wanted chunk reading = (answer_at wanted chunk (read_on wanted chunk reading), (read_on wanted chunk reading).coded)

abbrev pub wanted : Root → ℤ → ℤ → Wanted
wanted root low high = record { root = root; low = low; high = high }

-- decisions that the bounds allow, each in its phase
abbrev pub ArePossible : Wanted → List Bool → Type 0
ArePossible wanted [] = ⊤
ArePossible wanted (decision ∷ decisions) = ArePossible wanted decisions × IsTrue (allows (phase_after wanted decisions) decision)

-- one decision more of a value, where one follows
abbrev pub with_decided : ℤ → List Bool → Phase → List Bool
with_decided value decisions (Sign low high) = decided value (Sign low high) ∷ decisions
with_decided value decisions (Doubling side cutoff) = decided value (Doubling side cutoff) ∷ decisions
with_decided value decisions (Halving side cutoff range) = decided value (Halving side cutoff range) ∷ decisions
with_decided value decisions (Known known) = decisions

-- the first decisions of a value, the last one first: each says whether the value, or its size, is at least the cutoff
abbrev pub first_decisions : ℕ → Wanted → ℤ → List Bool
first_decisions zero wanted value = []
first_decisions (suc count) wanted value = with_decided value (first_decisions count wanted value) (phase_after wanted (first_decisions count wanted value))

-- all of them
abbrev pub decisions_of : Wanted → ℤ → List Bool
decisions_of wanted value = first_decisions most_decisions wanted value
