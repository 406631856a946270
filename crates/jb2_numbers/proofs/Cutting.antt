-- States and place of a reading stay sound, its decisions leave room for fewer, and cuts change nothing.
use Rattle.std.proofs.Common.{◌≡◌, ◌≤◌, ◌<◌, ◌+◌, ◌*◌, ℕ, zero, suc, Bool, true, false, List, ◌++◌, length, length-append, refl, sym, ap, subst, ◌∙◌, inl, inr, arith}
use Rattle.std.specs.Prelude.{Option, Some, None, ℤ}
use Rattle.std.proofs.lemmas.Bool.{cases_Bool}
use Rattle.zp_table.specs.declared.rows.Row.{Row}
use Rattle.zp_table.specs.Rows.{IsTable}
use Rattle.zp_decoder.specs.declared.decoder.Decision.{Decision}
use Rattle.zp_decoder.specs.declared.decoder.Decision.TheVariants as decision
use Rattle.zp_decoder.specs.Decision.{Interval, Form, Outcome, Adaptive, interval_at, split_of, is_determined, outcome_of, outcome_at}
use Rattle.zp_decoder.specs.Runs.{IsFormOf, IsStanding, room}
use Rattle.zp_decoder.proofs.Lemmas.{grown, Comes, comes, needs, exhausts, moves, standing, state_below, fewer, le_from_le_true, between_facts, between-from_facts, stored_below}
use Rattle.zp_decoder.specs.Chunk.{Chunk, chunk, IsReady}
use Rattle.jb2_numbers.specs.Answer as answer
use Rattle.jb2_numbers.specs.Contexts.{Name, is_same}
use Rattle.jb2_numbers.specs.Phases.{implied, Phase, Sign, Doubling, Halving, Known, is_known}
use Rattle.jb2_numbers.specs.Number.{Wanted, Reading, phase_after, begun, name_at, next_coded, with_coded, step_in, step, steps, most_decisions, read_on, answer_at, ArePossible}
use Rattle.jb2_numbers.specs.Reader.{AreBounds}
use Rattle.jb2_numbers.proofs.Stepping.{step_in_implied, step_in_coded, steps_ended, steps_add}
use Rattle.jb2_numbers.proofs.Ending.{read_on-ends_from, known_answer}

-- ---- decisions of a chunk that goes on

-- a bit comes only where the bytes determine it
pub determined_by : (rows : List Row) (form : Form) (payload : List ℕ) (ended : Bool) (place : Option Interval) (bit : Bool) →
    (outcome_of rows form payload ended place).answer ≡ decision.Bit bit → is_determined payload ended (interval_at payload place) ≡ true
determined_by rows form payload ended place bit e =
    elim (cases_Bool (is_determined payload ended (interval_at payload place))) [
      | inl there ↦ there
      | inr missing ↦ let waits : (outcome_of rows form payload ended place).answer ≡ decision.NeedBytes = rw missing refl in absurd
          (let same = sym e ∙ waits in cc)
    ]

exhausted_by : (rows : List Row) (form : Form) (payload : List ℕ) (place : Option Interval) (z : ℕ) (at : Interval) → Comes rows form payload false place z at →
    (outcome_at rows form payload false place z at).answer ≡ decision.Exhausted → ⊥
exhausted_by rows form payload place z at (needs d e) answered = let same = sym (ap (λ (o : Outcome). o.answer) e) ∙ answered in cc
exhausted_by rows form payload place z at (exhausts d x e) answered = cc
exhausted_by rows form payload place z at (moves d x e) answered = let same = sym (ap (λ (o : Outcome). o.answer) e) ∙ answered in cc

-- before the end no decision lies too far past it
pub never_exhausted : (rows : List Row) (form : Form) (payload : List ℕ) (place : Option Interval) →
    (outcome_of rows form payload false place).answer ≡ decision.Exhausted → ⊥
never_exhausted rows form payload place answered =
    let at : Interval = interval_at payload place in
    exhausted_by rows form payload place (split_of rows form at.a) at (comes rows form payload false place (split_of rows form at.a) at) answered

-- where some bytes determine the next decision, the decoder stands where decisions of them lead
standing_before : (payload more : List ℕ) (place : Option Interval) → IsStanding (length (payload ++ more)) place →
    is_determined payload false (interval_at payload place) ≡ true →
    IsStanding (length payload) place
standing_before payload more None stands there = refl
standing_before payload more (Some at) stands there =
    let facts = between_facts (length (payload ++ more)) at stands in
    let near : at.n + 32 ≤ 8 * length payload = le_from_le_true _ _ there in
    between-from_facts (length payload) at (record { low = facts.low; within = facts.within; below = facts.below; bits = omega arith })

-- a bit is the same with more bytes
pub same_bit : (rows : List Row) (form : Form) (payload more : List ℕ) (ended : Bool) (place : Option Interval) (bit : Bool) → IsTable rows →
    IsFormOf rows form →
    IsStanding (length (payload ++ more)) place → (outcome_of rows form payload false place).answer ≡ decision.Bit bit →
    outcome_of rows form (payload ++ more) ended place ≡ outcome_of rows form payload false place
same_bit rows form payload more ended place bit table below stands e =
    let there = determined_by rows form payload false place bit e in
    grown rows form payload more ended place table below (standing_before payload more place stands there) there

-- ---- one reading

-- what comes after these decisions: nothing, a decision that is implied, or one that is coded
pub data Turns (wanted : Wanted) (decisions : List Bool) : Type 0 where
  knows : (value : ℤ) → phase_after wanted decisions ≡ Known value → Turns wanted decisions
  implies : (bit : Bool) → implied (phase_after wanted decisions) ≡ Some bit → Turns wanted decisions
  codes : is_known (phase_after wanted decisions) ≡ false → implied (phase_after wanted decisions) ≡ None → Turns wanted decisions

turns_implied : (wanted : Wanted) (decisions : List Bool) (given : Option Bool) → implied (phase_after wanted decisions) ≡ given →
    is_known (phase_after wanted decisions) ≡ false → Turns wanted decisions
turns_implied wanted decisions (Some bit) e unknown = implies bit e
turns_implied wanted decisions None e unknown = codes unknown e

turns_by : (wanted : Wanted) (decisions : List Bool) (phase : Phase) → phase_after wanted decisions ≡ phase → Turns wanted decisions
turns_by wanted decisions (Sign low high) e = turns_implied wanted decisions (implied (phase_after wanted decisions)) refl (ap is_known e)
turns_by wanted decisions (Doubling side cutoff) e = turns_implied wanted decisions (implied (phase_after wanted decisions)) refl (ap is_known e)
turns_by wanted decisions (Halving side cutoff range) e = turns_implied wanted decisions (implied (phase_after wanted decisions)) refl (ap is_known e)
turns_by wanted decisions (Known value) e = knows value e

pub turns : (wanted : Wanted) (decisions : List Bool) → Turns wanted decisions
turns wanted decisions = turns_by wanted decisions (phase_after wanted decisions) refl

-- states are rows of the table, the decoder stands where decisions lead, and coded decisions have left room for fewer since
-- this reading
pub record Behind (from : Chunk) (first reading : Reading) : Type 0 where
  pub states : (name : Name) → reading.states name < length from.table
  pub stands : IsStanding (length from.payload) reading.place
  pub leaves : room from.payload reading.place + reading.coded ≤ room from.payload first.place + first.coded
  pub more : first.coded ≤ reading.coded

module _ (wanted : Wanted) (from : Chunk) (table : IsTable from.table) (first : Reading) where
  coded_behind : (reading : Reading) (given : Decision) → (next_coded wanted from reading).answer ≡ given → Behind from first reading →
      Behind from first (with_coded reading (name_at wanted reading) (next_coded wanted from reading) given)
  coded_behind reading (decision.Bit bit) e behind =
      let at : Name = name_at wanted reading in
      let below : reading.states at < length from.table = behind.states at in
      let less = fewer from.table (Adaptive (reading.states at)) from.payload from.ended reading.place bit table below behind.stands e in
      let was = behind.leaves in
      let more = behind.more in
      record {
        states = stored_below is_same reading.states at (next_coded wanted from reading).state (length from.table) behind.states
            (state_below from.table (reading.states at) from.payload from.ended reading.place table below);
        stands = standing from.table (Adaptive (reading.states at)) from.payload from.ended reading.place table below behind.stands;
        leaves = omega arith;
        more = omega arith;
      }
  coded_behind reading decision.NeedBytes e behind = behind
  coded_behind reading decision.Exhausted e behind = behind

  step_behind : (reading : Reading) → Turns wanted reading.decisions → Behind from first reading → Behind from first (step wanted from reading)
  step_behind reading (knows value e) behind = subst (Behind from first) (sym (ap (step_in wanted from reading) e)) behind
  step_behind reading (implies bit e) behind =
      subst (Behind from first) (sym (step_in_implied wanted from reading (phase_after wanted reading.decisions) bit e))
      (record { states = behind.states; stands = behind.stands; leaves = behind.leaves; more = behind.more })
  step_behind reading (codes unknown e) behind =
      subst (Behind from first) (sym (step_in_coded wanted from reading (phase_after wanted reading.decisions) unknown e))
      (coded_behind reading (next_coded wanted from reading).answer refl behind)

  pub stays_behind : (count : ℕ) → ((name : Name) → first.states name < length from.table) → IsStanding (length from.payload) first.place →
      Behind from first (steps count wanted from first)
  stays_behind zero below stands = record { states = below; stands = stands; leaves = omega arith; more = omega arith }
  stays_behind (suc count) below stands =
      step_behind (steps count wanted from first) (turns wanted (steps count wanted from first).decisions) (stays_behind count below stands)

-- ---- with more bytes

pub standing_after : (payload more : List ℕ) (place : Option Interval) → IsStanding (length payload) place → IsStanding (length (payload ++ more)) place
standing_after payload more None stands = refl
standing_after payload more (Some at) stands =
    let facts = between_facts (length payload) at stands in
    between-from_facts (length (payload ++ more)) at (record {
      low = facts.low;
      within = facts.within;
      below = facts.below;
      bits = omega
          (arith, length-append payload more);
    })

-- a reading of some bytes beside one of more: it is the same, or it waits for bytes where the other one passed it
pub data Follows (wanted : Wanted) (short long : Chunk) (first a b : Reading) : Type 0 where
  same : a ≡ b → Follows wanted short long first a b
  waits : (passed : ℕ) → a ≡ steps passed wanted long first → is_known (phase_after wanted a.decisions) ≡ false →
      implied (phase_after wanted a.decisions) ≡ None →
      (next_coded wanted short a).answer ≡ decision.NeedBytes → a.coded ≤ b.coded → Follows wanted short long first a b

more_coded : (wanted : Wanted) (from : Chunk) (first reading : Reading) → IsTable from.table → Behind from first reading →
    reading.coded ≤ (step wanted from reading).coded
more_coded wanted from first reading table behind =
    (step_behind wanted from table reading reading (turns wanted reading.decisions)
    (record { states = behind.states; stands = behind.stands; leaves = omega arith; more = omega arith })).more

module _ (wanted : Wanted) (rows : List Row) (payload more : List ℕ) (ended : Bool) (table : IsTable rows) (first : Reading) where
  abbrev short : Chunk
  short = chunk rows payload false

  abbrev long : Chunk
  long = chunk rows (payload ++ more) ended

  abbrev Beside : Reading → Reading → Type 0
  Beside a b = Follows wanted short long first a b

  coded_beside : (reading : Reading) (passed : ℕ) (given : Decision) → reading ≡ steps passed wanted long first → Behind long first reading →
      is_known (phase_after wanted reading.decisions) ≡ false → implied (phase_after wanted reading.decisions) ≡ None →
      (next_coded wanted short reading).answer ≡ given →
      Beside (step wanted short reading) (step wanted long reading)
  coded_beside reading passed (decision.Bit bit) is behind unknown none e =
      let at : Name = name_at wanted reading in
      let state : ℕ = reading.states at in
      same (step_in_coded wanted short reading (phase_after wanted reading.decisions) unknown none
      ∙ (ap (λ (o : Outcome). with_coded reading at o o.answer) (sym
      (same_bit rows (Adaptive state) payload more ended reading.place bit table (behind.states at) behind.stands e))
      ∙ sym (step_in_coded wanted long reading (phase_after wanted reading.decisions) unknown none)))
  coded_beside reading passed decision.NeedBytes is behind unknown none e =
      let still : step wanted short reading ≡ reading =
      step_in_coded wanted short reading (phase_after wanted reading.decisions) unknown none
      ∙ ap (with_coded reading (name_at wanted reading) (next_coded wanted short reading)) e in
      subst (λ (r : Reading). Beside r (step wanted long reading)) (sym still)
      (waits passed is unknown none e (more_coded wanted long first reading table behind))
  coded_beside reading passed decision.Exhausted is behind unknown none e =
      absurd (never_exhausted rows (Adaptive (reading.states (name_at wanted reading))) payload reading.place e)

  turn_beside : (reading : Reading) (passed : ℕ) → reading ≡ steps passed wanted long first → Behind long first reading → Turns wanted reading.decisions →
      Beside (step wanted short reading) (step wanted long reading)
  turn_beside reading passed is behind (knows value e) = same (ap (step_in wanted short reading) e ∙ sym (ap (step_in wanted long reading) e))
  turn_beside reading passed is behind (implies bit e) =
      same (step_in_implied wanted short reading (phase_after wanted reading.decisions) bit e
      ∙ sym (step_in_implied wanted long reading (phase_after wanted reading.decisions) bit e))
  turn_beside reading passed is behind (codes unknown none) = coded_beside reading passed (next_coded wanted short reading).answer is behind unknown none refl

  step_beside : (a b : Reading) (passed : ℕ) → b ≡ steps passed wanted long first → Behind long first b → Beside a b →
      Beside (step wanted short a) (step wanted long b)
  step_beside a b passed is behind (same e) =
      subst (λ (r : Reading). Beside (step wanted short r) (step wanted long b)) (sym e) (turn_beside b passed is behind (turns wanted b.decisions))
  step_beside a b passed is behind (waits before was unknown none e less) =
      let still : step wanted short a ≡ a =
      step_in_coded wanted short a (phase_after wanted a.decisions) unknown none ∙ ap (with_coded a (name_at wanted a) (next_coded wanted short a)) e in
      let later = more_coded wanted long first b table behind in
      subst (λ (r : Reading). Beside r (step wanted long b)) (sym still) (waits before was unknown none e (omega (arith, less, later)))

  pub follows : (count : ℕ) → ((name : Name) → first.states name < length rows) → IsStanding (length (payload ++ more)) first.place →
      Follows wanted short long first (steps count wanted short first) (steps count wanted long first)
  follows zero below stands = same refl
  follows (suc count) below stands =
      step_beside (steps count wanted short first) (steps count wanted long first) count refl (stays_behind wanted long table first count below stands)
      (follows count below stands)

cut_by : (wanted : Wanted) (short long : Chunk) (first a : Reading) (count : ℕ) → AreBounds wanted.low wanted.high → ArePossible wanted first.decisions →
    Follows wanted short long first a (steps count wanted long first) → read_on wanted long a ≡ read_on wanted long first
cut_by wanted short long first a count bounds possible (same e) =
    ap (read_on wanted long) e
    ∙ (steps_add wanted long first most_decisions count ∙ steps_ended wanted long first (most_decisions + count) most_decisions (omega arith)
    (read_on-ends_from wanted long first bounds possible))
cut_by wanted short long first a count bounds possible (waits passed is unknown none e less) =
    ap (read_on wanted long) is
    ∙ (steps_add wanted long first most_decisions passed
    ∙ steps_ended wanted long first (most_decisions + passed) most_decisions (omega arith) (read_on-ends_from wanted long first bounds possible))

pub stopped_anywhere : (wanted : Wanted) (rows : List Row) (payload more : List ℕ) (ended : Bool) (at : Reading) (count : ℕ) →
    AreBounds wanted.low wanted.high → ArePossible wanted at.decisions → IsReady (chunk rows payload false) at.states at.place →
    read_on wanted (chunk rows (payload ++ more) ended) (steps count wanted (chunk rows payload false) at) ≡
    read_on wanted (chunk rows (payload ++ more) ended) at
stopped_anywhere wanted rows payload more ended at count bounds possible ready =
    cut_by wanted (chunk rows payload false) (chunk rows (payload ++ more) ended) at (steps count wanted (chunk rows payload false) at) count bounds possible
    (follows wanted rows payload more ended ready.table at count ready.below (standing_after payload more at.place ready.standing))

pub cut_anywhere : (wanted : Wanted) (rows : List Row) (payload more : List ℕ) (ended : Bool) (states : Name → ℕ) (place : Option Interval) →
    AreBounds wanted.low wanted.high → IsReady (chunk rows payload false) states place →
    read_on wanted (chunk rows (payload ++ more) ended) (read_on wanted (chunk rows payload false) (begun states place)) ≡
    read_on wanted (chunk rows (payload ++ more) ended) (begun states place)
cut_anywhere wanted rows payload more ended states place bounds ready =
    stopped_anywhere wanted rows payload more ended (begun states place) most_decisions bounds tt ready

-- a number that some bytes determine is the same with more of them
pub number_stays : (wanted : Wanted) (rows : List Row) (payload more : List ℕ) (ended : Bool) (at : Reading) (value : ℤ) → AreBounds wanted.low wanted.high →
    ArePossible wanted at.decisions → IsReady (chunk rows payload false) at.states at.place →
    answer_at wanted (chunk rows payload false) (read_on wanted (chunk rows payload false) at) ≡ answer.Number value →
    read_on wanted (chunk rows (payload ++ more) ended) at ≡ read_on wanted (chunk rows payload false) at
number_stays wanted rows payload more ended at value bounds possible ready answered =
    let from : Chunk = chunk rows payload false in
    let reading : Reading = read_on wanted from at in
    let all : Chunk = chunk rows (payload ++ more) ended in
    let known = known_answer wanted from reading (phase_after wanted reading.decisions) (next_coded wanted from reading).answer value refl answered in
    sym (stopped_anywhere wanted rows payload more ended at most_decisions bounds possible ready)
    ∙ steps_ended wanted all reading most_decisions 0 (omega arith) (ap (step_in wanted all reading) known)
