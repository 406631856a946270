-- How a slice is read from a chunk.
use Rattle.std.specs.Prelude.{ℕ, ◌+◌, Bool, Option, None}
use Rattle.zp_decoder.specs.declared.decoder.Decision.{Decision}
use Rattle.zp_decoder.specs.declared.decoder.Decision.TheVariants as decision
use Rattle.zp_decoder.specs.Chunk.{Chunk}
use Rattle.zp_decoder.specs.Decision.{Interval, Form, Adaptive, Iw, Outcome, outcome_of}
use Rattle.zp_decoder.specs.States.{fresh, stored}
use Rattle.iw44_blocks.specs.Plane.{Plane}
use Rattle.iw44_slices.specs.Contexts.{Context, is_same}
use Rattle.iw44_slices.specs.Slice.{Asked, In, Plain, Course, Ended, Asks, slice_course}
use Rattle.iw44_slices.specs.declared.steps.SliceStep.{SliceStep}
use Rattle.iw44_slices.specs.declared.steps.SliceStep.TheVariants as step

-- the state of each context
abbrev pub States : Type 0
States = Context → ℕ

-- where a reading stands: the states of the plane's contexts, where the decoder's last decision led, and how many
-- decisions were read
pub record At : Type 0 where
  pub states : States
  pub place : Option Interval
  pub decisions : ℕ

abbrev pub standing : States → Option Interval → ℕ → At
standing states place decisions = record { states = states; place = place; decisions = decisions }

-- what a reading answers, what is left of the slice then, and where it stands
pub record Reading : Type 0 where
  pub answer : SliceStep
  pub left : Course
  pub at : At

abbrev pub stands : SliceStep → Course → At → Reading
stands answer left at = record { answer = answer; left = left; at = at }

-- the coefficients, after what was read of a slice
abbrev pub plane_of : Course → Plane
plane_of (Ended plane) = plane
plane_of (Asks plane asked next) = plane

-- the form of a decision, by the states
abbrev pub form_of : Asked → States → Form
form_of (In context) states = Adaptive (states context)
form_of Plain states = Iw

-- the states after a decision: that of its context moves
abbrev pub states_after : Asked → ℕ → States → States
states_after (In context) state states = stored is_same states context state
states_after Plain state states = states

-- after a bit
abbrev pub moved : Asked → Outcome → At → At
moved asked outcome at = standing (states_after asked outcome.state at.states) outcome.place (at.decisions + 1)

-- after a decision: a bit leads on; without one the reading stands where it stood
abbrev pub after_decision : Decision → Outcome → Plane → Asked → (Bool → Course) → At → (Bool → At → Reading) → Reading
after_decision (decision.Bit bit) outcome plane asked next at rest = rest bit (moved asked outcome at)
after_decision decision.NeedBytes outcome plane asked next at rest = stands step.NeedBytes (Asks plane asked next) at
after_decision decision.Exhausted outcome plane asked next at rest = stands step.Exhausted (Asks plane asked next) at

abbrev pub outcome_at : Chunk → Asked → At → Outcome
outcome_at from asked at = outcome_of from.table (form_of asked at.states) from.payload from.ended at.place

-- what is left of a slice is read on, as far as the bytes go
abbrev pub read_on : Chunk → Course → At → Reading
read_on from (Ended plane) at = stands step.SliceEnd (Ended plane) at
read_on from (Asks plane asked next) at =
    after_decision (outcome_at from asked at).answer (outcome_at from asked at) plane asked next at (λ bit later. read_on from (next bit) later)

-- a slice of a plane with these coefficients is read
abbrev pub read_slice : Chunk → ℕ → Plane → At → Reading
read_slice from slice plane at = read_on from (slice_course slice plane) at

-- nothing was read of a chunk, and no context has moved
abbrev pub at_start : At
at_start = standing fresh None 0
