-- However the bytes are cut, the reading is the same; and each decision leaves room for fewer.
use Rattle.std.proofs.Common.{◌≡◌, ℕ, ◌+◌, ◌≤◌, Bool, true, false, List, length, ◌++◌, Option, refl, ap, sym, ◌∙◌, arith, inl, inr}
use Rattle.std.proofs.lemmas.Bool.{cases_Bool}
use Rattle.zp_table.specs.declared.rows.Row.{Row}
use Rattle.zp_decoder.specs.declared.decoder.Decision.{Decision}
use Rattle.zp_decoder.specs.declared.decoder.Decision.TheVariants as decision
use Rattle.zp_decoder.specs.Chunk.{Chunk, chunk, IsReady}
use Rattle.zp_decoder.specs.Decision.{Interval, Form, Outcome, interval_at, split_of, bit_of, is_determined, outcome_of}
use Rattle.zp_decoder.specs.Runs.{IsFormOf, room}
use Rattle.zp_decoder.specs.States.{AreBelow}
use Rattle.zp_decoder.proofs.Lemmas.{comes, needs, exhausts, moves, grown, standing, state_below, stored_below, fewer}
use Rattle.iw44_blocks.specs.Plane.{Plane}
use Rattle.iw44_slices.specs.Contexts.{is_same}
use Rattle.iw44_slices.specs.Slice.{Asked, In, Plain, Course, Ended, Asks}
use Rattle.iw44_slices.specs.Reading.{States, At, Reading, stands, plane_of, form_of, states_after, moved, after_decision, outcome_at, read_on}
use Rattle.iw44_slices.specs.declared.steps.SliceStep.{SliceStep}
use Rattle.iw44_slices.specs.declared.steps.SliceStep.TheVariants as step

-- a bit comes only where the bytes determine it
determined_by : (rows : List Row) (form : Form) (payload : List ℕ) (ended : Bool) (place : Option Interval) (bit : Bool) →
    (outcome_of rows form payload ended place).answer ≡ decision.Bit bit → is_determined payload ended (interval_at payload place) ≡ true
determined_by rows form payload ended place bit e =
    elim (cases_Bool (is_determined payload ended (interval_at payload place))) [
      | inl there ↦ there
      | inr missing ↦ let needs : (outcome_of rows form payload ended place).answer ≡ decision.NeedBytes = rw missing refl in absurd (let same = sym e ∙ needs in cc)
    ]

pub form_fits : (asked : Asked) (rows : List Row) (states : States) → AreBelow (length rows) states → IsFormOf rows (form_of asked states)
form_fits (In context) rows states below = below context
form_fits Plain rows states below = tt

-- after a bit the states are rows still, and the decoder stands
states_fit : (asked : Asked) (from : Chunk) (at : At) → IsReady from at.states at.place → AreBelow (length from.table) (states_after asked (outcome_at from asked at).state at.states)
states_fit (In context) from at ready =
    stored_below is_same at.states context (outcome_at from (In context) at).state (length from.table) ready.below
    (state_below from.table (at.states context) from.payload from.ended at.place ready.table (ready.below context))
states_fit Plain from at ready = ready.below

pub moved_ready : (asked : Asked) (from : Chunk) (at : At) → IsReady from at.states at.place →
    IsReady from (moved asked (outcome_at from asked at) at).states (moved asked (outcome_at from asked at) at).place
moved_ready asked from at ready = record {
  table = ready.table;
  below = states_fit asked from at ready;
  standing = standing from.table (form_of asked at.states) from.payload from.ended at.place ready.table (form_fits asked from.table at.states ready.below) ready.standing;
}

-- what is read with more bytes, from where the reading stands and from where it stood
abbrev GoesFrom : Chunk → Chunk → Course → At → Type 0
GoesFrom short long course at = read_on long (read_on short course at).left (read_on short course at).at ≡ read_on long course at

-- a decision that was read is the same with more bytes
same_bit : (rows : List Row) (payload more : List ℕ) (ended : Bool) (asked : Asked) (at : At) (bit : Bool) → IsReady (chunk rows payload false) at.states at.place →
    (outcome_at (chunk rows payload false) asked at).answer ≡ decision.Bit bit →
    outcome_at (chunk rows (payload ++ more) ended) asked at ≡ outcome_at (chunk rows payload false) asked at
same_bit rows payload more ended asked at bit ready e =
    grown rows (form_of asked at.states) payload more ended at.place ready.table (form_fits asked rows at.states ready.below) ready.standing
    (determined_by rows (form_of asked at.states) payload false at.place bit e)

-- where a decision answers a bit, the reading goes on
pub goes_on : (from : Chunk) (plane : Plane) (asked : Asked) (next : Bool → Course) (at : At) (outcome : Outcome) (bit : Bool) → outcome_at from asked at ≡ outcome → outcome.answer ≡ decision.Bit bit →
    read_on from (Asks plane asked next) at ≡ read_on from (next bit) (moved asked outcome at)
goes_on from plane asked next at outcome bit same e =
    ap (λ (o : Outcome). after_decision o.answer o plane asked next at (λ b later. read_on from (next b) later)) same
    ∙ ap (λ (d : Decision). after_decision d outcome plane asked next at (λ b later. read_on from (next b) later)) e

cut_by : (rows : List Row) (payload more : List ℕ) (ended : Bool) (plane : Plane) (asked : Asked) (next : Bool → Course) (at : At) (answer : Decision) →
    IsReady (chunk rows payload false) at.states at.place → (outcome_at (chunk rows payload false) asked at).answer ≡ answer →
    ((bit : Bool) (later : At) → IsReady (chunk rows payload false) later.states later.place → GoesFrom (chunk rows payload false) (chunk rows (payload ++ more) ended) (next bit) later) →
    let reading = after_decision answer (outcome_at (chunk rows payload false) asked at) plane asked next at (λ bit later. read_on (chunk rows payload false) (next bit) later) in
    read_on (chunk rows (payload ++ more) ended) reading.left reading.at ≡ read_on (chunk rows (payload ++ more) ended) (Asks plane asked next) at
cut_by rows payload more ended plane asked next at (decision.Bit bit) ready e later =
    let short = chunk rows payload false in
    let long = chunk rows (payload ++ more) ended in
    let outcome = outcome_at short asked at in
    later bit (moved asked outcome at) (moved_ready asked short at ready)
    ∙ sym (goes_on long plane asked next at outcome bit (same_bit rows payload more ended asked at bit ready e) e)
cut_by rows payload more ended plane asked next at decision.NeedBytes ready e later = refl
cut_by rows payload more ended plane asked next at decision.Exhausted ready e later = refl

pub cut_anywhere : (rows : List Row) (payload more : List ℕ) (ended : Bool) (course : Course) (at : At) → IsReady (chunk rows payload false) at.states at.place →
    GoesFrom (chunk rows payload false) (chunk rows (payload ++ more) ended) course at
cut_anywhere rows payload more ended (Ended plane) at ready = refl
cut_anywhere rows payload more ended (Asks plane asked next) at ready =
    cut_by rows payload more ended plane asked next at (outcome_at (chunk rows payload false) asked at).answer ready refl
    (λ bit later there. cut_anywhere rows payload more ended (next bit) later there)

-- a reading can go on, and its decisions have left room for fewer
pub record Leaves (from : Chunk) (at : At) (reading : Reading) : Type 0 where
  pub ready : IsReady from reading.at.states reading.at.place
  pub room : room from.payload reading.at.place + reading.at.decisions ≤ room from.payload at.place + at.decisions
  pub more : at.decisions ≤ reading.at.decisions

leaves_by : (from : Chunk) (plane : Plane) (asked : Asked) (next : Bool → Course) (at : At) (answer : Decision) → IsReady from at.states at.place →
    (outcome_at from asked at).answer ≡ answer →
    ((bit : Bool) (later : At) → IsReady from later.states later.place → Leaves from later (read_on from (next bit) later)) →
    Leaves from at (after_decision answer (outcome_at from asked at) plane asked next at (λ bit later. read_on from (next bit) later))
leaves_by from plane asked next at (decision.Bit bit) ready e later =
    let less = fewer from.table (form_of asked at.states) from.payload from.ended at.place bit ready.table (form_fits asked from.table at.states ready.below) ready.standing e in
    let rest = later bit (moved asked (outcome_at from asked at) at) (moved_ready asked from at ready) in
    let first = rest.room in
    let second = rest.more in
    record { ready = rest.ready; room = omega (arith, first, less); more = omega (arith, second) }
leaves_by from plane asked next at decision.NeedBytes ready e later = record { ready = ready; room = omega arith; more = omega arith }
leaves_by from plane asked next at decision.Exhausted ready e later = record { ready = ready; room = omega arith; more = omega arith }

pub leaves_room : (from : Chunk) (course : Course) (at : At) → IsReady from at.states at.place → Leaves from at (read_on from course at)
leaves_room from (Ended plane) at ready = record { ready = ready; room = omega arith; more = omega arith }
leaves_room from (Asks plane asked next) at ready =
    leaves_by from plane asked next at (outcome_at from asked at).answer ready refl (λ bit later there. leaves_room from (next bit) later there)

-- what was read whole has nothing left
whole_by : (from : Chunk) (plane : Plane) (asked : Asked) (next : Bool → Course) (at : At) (answer : Decision) →
    ((bit : Bool) (later : At) → (read_on from (next bit) later).answer ≡ step.SliceEnd → (read_on from (next bit) later).left ≡ Ended (plane_of (read_on from (next bit) later).left)) →
    let reading = after_decision answer (outcome_at from asked at) plane asked next at (λ bit later. read_on from (next bit) later) in
    reading.answer ≡ step.SliceEnd → reading.left ≡ Ended (plane_of reading.left)
whole_by from plane asked next at (decision.Bit bit) goes e = goes bit (moved asked (outcome_at from asked at) at) e
whole_by from plane asked next at decision.NeedBytes goes e = cc
whole_by from plane asked next at decision.Exhausted goes e = cc

pub nothing_left : (from : Chunk) (course : Course) (at : At) → (read_on from course at).answer ≡ step.SliceEnd → (read_on from course at).left ≡ Ended (plane_of (read_on from course at).left)
nothing_left from (Ended plane) at e = refl
nothing_left from (Asks plane asked next) at e = whole_by from plane asked next at (outcome_at from asked at).answer (λ bit later there. nothing_left from (next bit) later there) e

-- and more bytes change nothing of it
pub whole_stays : (rows : List Row) (payload more : List ℕ) (ended : Bool) (course : Course) (at : At) → IsReady (chunk rows payload false) at.states at.place →
    (read_on (chunk rows payload false) course at).answer ≡ step.SliceEnd → read_on (chunk rows (payload ++ more) ended) course at ≡ read_on (chunk rows payload false) course at
whole_stays rows payload more ended course at ready e =
    let short = read_on (chunk rows payload false) course at in
    let left = nothing_left (chunk rows payload false) course at e in
    sym (cut_anywhere rows payload more ended course at ready) ∙ ap (λ (c : Course). read_on (chunk rows (payload ++ more) ended) c short.at) left
    ∙ ap (λ (c : Course). stands step.SliceEnd c short.at) (sym left) ∙ ap (λ (a : SliceStep). stands a short.left short.at) (sym e)

-- while bytes may come nothing is exhausted
open_end : (rows : List Row) (form : Form) (payload : List ℕ) (place : Option Interval) → (outcome_of rows form payload false place).answer ≡ decision.Exhausted → ⊥
open_end rows form payload place e =
    elim (comes rows form payload false place (split_of rows form (interval_at payload place).a) (interval_at payload place)) [
      | needs d is ↦ let told : (outcome_of rows form payload false place).answer ≡ decision.NeedBytes = ap (λ (o : Outcome). o.answer) is in let wrong = sym told ∙ e in cc
      | exhausts d x is ↦ cc
      | moves d x is ↦
          let told : (outcome_of rows form payload false place).answer ≡ decision.Bit (bit_of form (split_of rows form (interval_at payload place).a) (interval_at payload place)) =
          ap (λ (o : Outcome). o.answer) is in
          let wrong = sym told ∙ e in cc
    ]

open_by : (from : Chunk) (plane : Plane) (asked : Asked) (next : Bool → Course) (at : At) (answer : Decision) → (answer ≡ decision.Exhausted → ⊥) →
    ((bit : Bool) (later : At) → (read_on from (next bit) later).answer ≡ step.Exhausted → ⊥) →
    (after_decision answer (outcome_at from asked at) plane asked next at (λ bit later. read_on from (next bit) later)).answer ≡ step.Exhausted → ⊥
open_by from plane asked next at (decision.Bit bit) none goes e = goes bit (moved asked (outcome_at from asked at) at) e
open_by from plane asked next at decision.NeedBytes none goes e = cc
open_by from plane asked next at decision.Exhausted none goes e = none refl

pub never_exhausted : (rows : List Row) (payload : List ℕ) (course : Course) (at : At) → (read_on (chunk rows payload false) course at).answer ≡ step.Exhausted → ⊥
never_exhausted rows payload (Ended plane) at e = cc
never_exhausted rows payload (Asks plane asked next) at e =
    open_by (chunk rows payload false) plane asked next at (outcome_at (chunk rows payload false) asked at).answer (open_end rows (form_of asked at.states) payload at.place)
    (λ bit later there. never_exhausted rows payload (next bit) later there) e
