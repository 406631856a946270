-- Which step comes, and that no number has more than 36 of them.
use Rattle.std.proofs.Common.{◌≡◌, ◌≤◌, ◌+◌, ◌/◌, ◌==◌, ℕ, zero, suc, ℤ, pos, negsuc, add-one, rules, ◌≤ℤ◌, Bool, true, false, List, [], ◌∷◌, length, refl, sym, ap, subst, ◌∙◌, inl, inr, arith}
use Rattle.std.specs.Prelude.{◌⊎◌, Option, Some, None, int_le, IsTrue}
use Rattle.std.proofs.lemmas.Grind.{common_steps}
use Rattle.zp_decoder.specs.declared.decoder.Decision.{Decision}
use Rattle.zp_decoder.specs.declared.decoder.Decision.TheVariants as decision
use Rattle.zp_decoder.specs.Decision.{Interval}
use Rattle.zp_decoder.specs.Chunk.{Chunk}
use Rattle.jb2_numbers.specs.Answer as answer
use Rattle.jb2_numbers.specs.Contexts.{Name}
use Rattle.jb2_numbers.specs.Phases.{at_least, opposite, settled, halved, next_phase, implied, implied_by, allows, Side, Phase, Sign, Doubling, Halving, Known, is_known}
use Rattle.jb2_numbers.specs.Number.{Wanted, Reading, phase_after, begun, name_at, next_coded, with_implied, with_coded, step_in, step, steps, most_decisions, read_on, answer_without, answer_in, answer_at, ArePossible}
use Rattle.jb2_numbers.specs.Reader.{AreBounds}
use Rattle.jb2_numbers.specs.Steps.{is_sound, limit}
use Rattle.jb2_numbers.proofs.Sound.{next_sound, allowed_implied, allowed_coded, few_before, few_sound}
use Rattle.jb2_numbers.proofs.Stepping.{step_in_implied, step_in_coded}
use Rattle.jb2_numbers.proofs.Bounds.{within_bounds}

-- what a step does
data Comes (wanted : Wanted) (chunk : Chunk) (reading : Reading) : Type 0 where
  knows : (value : ℤ) → phase_after wanted reading.decisions ≡ Known value → step wanted chunk reading ≡ reading → Comes wanted chunk reading
  waits : implied (phase_after wanted reading.decisions) ≡ None → is_known (phase_after wanted reading.decisions) ≡ false →
      step wanted chunk reading ≡ reading → Comes wanted chunk reading
  implies : (bit : Bool) → implied (phase_after wanted reading.decisions) ≡ Some bit → step wanted chunk reading ≡ with_implied reading bit →
      Comes wanted chunk reading
  codes : (bit : Bool) → is_known (phase_after wanted reading.decisions) ≡ false → implied (phase_after wanted reading.decisions) ≡ None →
      step wanted chunk reading ≡ with_coded reading (name_at wanted reading) (next_coded wanted chunk reading) (decision.Bit bit) → Comes wanted chunk reading

by_answer : (wanted : Wanted) (chunk : Chunk) (reading : Reading) (given : Decision) → (next_coded wanted chunk reading).answer ≡ given →
    is_known (phase_after wanted reading.decisions) ≡ false → implied (phase_after wanted reading.decisions) ≡ None → Comes wanted chunk reading
by_answer wanted chunk reading (decision.Bit bit) e unknown none =
    codes bit unknown none (step_in_coded wanted chunk reading (phase_after wanted reading.decisions) unknown none
    ∙ ap (with_coded reading (name_at wanted reading) (next_coded wanted chunk reading)) e)
by_answer wanted chunk reading decision.NeedBytes e unknown none =
    waits none unknown (step_in_coded wanted chunk reading (phase_after wanted reading.decisions) unknown none
    ∙ ap (with_coded reading (name_at wanted reading) (next_coded wanted chunk reading)) e)
by_answer wanted chunk reading decision.Exhausted e unknown none =
    waits none unknown (step_in_coded wanted chunk reading (phase_after wanted reading.decisions) unknown none
    ∙ ap (with_coded reading (name_at wanted reading) (next_coded wanted chunk reading)) e)

by_implied : (wanted : Wanted) (chunk : Chunk) (reading : Reading) (o : Option Bool) → implied (phase_after wanted reading.decisions) ≡ o →
    is_known (phase_after wanted reading.decisions) ≡ false → Comes wanted chunk reading
by_implied wanted chunk reading (Some bit) e unknown = implies bit e (step_in_implied wanted chunk reading (phase_after wanted reading.decisions) bit e)
by_implied wanted chunk reading None e unknown = by_answer wanted chunk reading (next_coded wanted chunk reading).answer refl unknown e

by_phase : (wanted : Wanted) (chunk : Chunk) (reading : Reading) (phase : Phase) → phase_after wanted reading.decisions ≡ phase → Comes wanted chunk reading
by_phase wanted chunk reading (Sign low high) e = by_implied wanted chunk reading (implied (phase_after wanted reading.decisions)) refl (ap is_known e)
by_phase wanted chunk reading (Doubling side cutoff) e = by_implied wanted chunk reading (implied (phase_after wanted reading.decisions)) refl (ap is_known e)
by_phase wanted chunk reading (Halving side cutoff range) e = by_implied wanted chunk reading (implied (phase_after wanted reading.decisions)) refl
    (ap is_known e)
by_phase wanted chunk reading (Known value) e = knows value e (ap (step_in wanted chunk reading) e)

comes : (wanted : Wanted) (chunk : Chunk) (reading : Reading) → Comes wanted chunk reading
comes wanted chunk reading = by_phase wanted chunk reading (phase_after wanted reading.decisions) refl

-- a reading whose decisions were implied or coded
record Goes (wanted : Wanted) (reading : Reading) : Type 0 where
  possible : ArePossible wanted reading.decisions
  sound : IsTrue (is_sound (length reading.decisions) (phase_after wanted reading.decisions))

sound_more : (wanted : Wanted) (decisions : List Bool) (bit : Bool) → IsTrue (is_sound (length decisions) (phase_after wanted decisions)) →
    IsTrue (allows (phase_after wanted decisions) bit) →
    IsTrue (is_sound (suc (length decisions)) (next_phase (phase_after wanted decisions) bit))
sound_more wanted decisions bit sound allowed =
    subst (λ (n : ℕ). IsTrue (is_sound n (next_phase (phase_after wanted decisions) bit))) (add-one (length decisions))
    (next_sound (length decisions) (phase_after wanted decisions) bit sound allowed)

goes_more : (wanted : Wanted) (reading : Reading) (bit : Bool) (next : Reading) → next.decisions ≡ bit ∷ reading.decisions → Goes wanted reading →
    IsTrue (allows (phase_after wanted reading.decisions) bit) → Goes wanted next
goes_more wanted reading bit next e goes allowed = record {
  possible = subst (ArePossible wanted) (sym e) (goes.possible, allowed);
  sound = subst (λ (ds : List Bool). IsTrue (is_sound (length ds) (phase_after wanted ds))) (sym e)
      (sound_more wanted reading.decisions bit goes.sound allowed);
}

goes_by : (wanted : Wanted) (chunk : Chunk) (reading : Reading) → Goes wanted reading → Comes wanted chunk reading → Goes wanted (step wanted chunk reading)
goes_by wanted chunk reading goes (knows value phase same) = subst (Goes wanted) (sym same) goes
goes_by wanted chunk reading goes (waits none unknown same) = subst (Goes wanted) (sym same) goes
goes_by wanted chunk reading goes (implies bit given same) =
    goes_more wanted reading bit (step wanted chunk reading) (ap (λ (r : Reading). r.decisions) same) goes
    (allowed_implied (length reading.decisions) (phase_after wanted reading.decisions) bit goes.sound given)
goes_by wanted chunk reading goes (codes bit unknown none same) =
    goes_more wanted reading bit (step wanted chunk reading) (ap (λ (r : Reading). r.decisions) same) goes
    (allowed_coded (phase_after wanted reading.decisions) bit unknown none)

first_by : (low high : ℤ) → low ≤ℤ high → negsuc 262142 ≤ℤ low → high ≤ℤ pos 262142 → IsTrue (is_sound 0 (Sign low high))
unfolding limit
first_by (pos l) (pos h) order least most = search rules
first_by (pos l) (negsuc h) order least most = search rules
first_by (negsuc l) (pos h) order least most = search rules
first_by (negsuc l) (negsuc h) order least most = search rules

first_sound : (wanted : Wanted) → AreBounds wanted.low wanted.high → IsTrue (is_sound 0 (Sign wanted.low wanted.high))
first_sound wanted bounds = first_by wanted.low wanted.high bounds.order bounds.least bounds.most

-- after possible decisions a phase is sound
pub sound_of : (wanted : Wanted) (decisions : List Bool) → AreBounds wanted.low wanted.high → ArePossible wanted decisions →
    IsTrue (is_sound (length decisions) (phase_after wanted decisions))
sound_of wanted [] bounds possible = first_sound wanted bounds
sound_of wanted (decision ∷ decisions) bounds possible = sound_more wanted decisions decision (sound_of wanted decisions bounds possible.0) possible.1

goes_from : (wanted : Wanted) (chunk : Chunk) (at : Reading) (count : ℕ) → AreBounds wanted.low wanted.high → ArePossible wanted at.decisions →
    Goes wanted (steps count wanted chunk at)
goes_from wanted chunk at zero bounds possible = record { possible = possible; sound = sound_of wanted at.decisions bounds possible }
goes_from wanted chunk at (suc count) bounds possible =
    goes_by wanted chunk (steps count wanted chunk at) (goes_from wanted chunk at count bounds possible) (comes wanted chunk (steps count wanted chunk at))

pub possible_from : (wanted : Wanted) (chunk : Chunk) (at : Reading) (count : ℕ) → AreBounds wanted.low wanted.high → ArePossible wanted at.decisions →
    ArePossible wanted (steps count wanted chunk at).decisions
possible_from wanted chunk at count bounds possible = (goes_from wanted chunk at count bounds possible).possible

pub possible_after : (wanted : Wanted) (chunk : Chunk) (states : Name → ℕ) (place : Option Interval) (count : ℕ) → AreBounds wanted.low wanted.high →
    ArePossible wanted (steps count wanted chunk (begun states place)).decisions
possible_after wanted chunk states place count bounds = possible_from wanted chunk (begun states place) count bounds tt

few_from : (wanted : Wanted) (chunk : Chunk) (at : Reading) (count : ℕ) → AreBounds wanted.low wanted.high → ArePossible wanted at.decisions →
    length (steps count wanted chunk at).decisions ≤ 36
few_from wanted chunk at count bounds possible =
    few_sound (length (steps count wanted chunk at).decisions) (phase_after wanted (steps count wanted chunk at).decisions)
    (goes_from wanted chunk at count bounds possible).sound

pub few_after : (wanted : Wanted) (chunk : Chunk) (states : Name → ℕ) (place : Option Interval) (count : ℕ) → AreBounds wanted.low wanted.high →
    length (steps count wanted chunk (begun states place)).decisions ≤ 36
few_after wanted chunk states place count bounds = few_from wanted chunk (begun states place) count bounds tt

-- each step adds a decision, but for the last one
longer_by : (wanted : Wanted) (chunk : Chunk) (reading : Reading) (count : ℕ) → count ≤ length reading.decisions → Comes wanted chunk reading →
    (step wanted chunk reading ≡ reading) ⊎ (suc count ≤ length (step wanted chunk reading).decisions)
longer_by wanted chunk reading count few (knows value phase same) = inl same
longer_by wanted chunk reading count few (waits none unknown same) = inl same
longer_by wanted chunk reading count few (implies bit given same) =
    let more : length (step wanted chunk reading).decisions ≡ suc (length reading.decisions) = ap (λ (r : Reading). length r.decisions) same in
    inr (omega (arith, more, few))
longer_by wanted chunk reading count few (codes bit unknown none same) =
    let more : length (step wanted chunk reading).decisions ≡ suc (length reading.decisions) = ap (λ (r : Reading). length r.decisions) same in
    inr (omega (arith, more, few))

longer : (wanted : Wanted) (chunk : Chunk) (at : Reading) (count : ℕ) →
    (step wanted chunk (steps count wanted chunk at) ≡ steps count wanted chunk at) ⊎ (count ≤ length (steps count wanted chunk at).decisions)
longer wanted chunk at zero = inr (omega arith)
longer wanted chunk at (suc count) =
    elim (longer wanted chunk at count) [
      | inl same ↦ inl (ap (step wanted chunk) same)
      | inr e ↦ elim (longer_by wanted chunk (steps count wanted chunk at) count e (comes wanted chunk (steps count wanted chunk at))) [
        | inl same ↦ inl (ap (step wanted chunk) same)
        | inr f ↦ inr f
      ]
    ]

full_ends : (wanted : Wanted) (chunk : Chunk) (reading : Reading) → 36 ≤ length reading.decisions → Goes wanted reading → Comes wanted chunk reading →
    step wanted chunk reading ≡ reading
full_ends wanted chunk reading e goes (knows value phase same) = same
full_ends wanted chunk reading e goes (waits none unknown same) = same
full_ends wanted chunk reading e goes (implies bit given same) =
    let few = few_before (length reading.decisions) (phase_after wanted reading.decisions) bit goes.sound
    (allowed_implied (length reading.decisions) (phase_after wanted reading.decisions) bit goes.sound given) in
    absurd (omega (arith, few, e))
full_ends wanted chunk reading e goes (codes bit unknown none same) =
    let few = few_before (length reading.decisions) (phase_after wanted reading.decisions) bit goes.sound
    (allowed_coded (phase_after wanted reading.decisions) bit unknown none) in
    absurd (omega (arith, few, e))

pub read_on-ends_from : (wanted : Wanted) (chunk : Chunk) (at : Reading) → AreBounds wanted.low wanted.high → ArePossible wanted at.decisions →
    step wanted chunk (read_on wanted chunk at) ≡ read_on wanted chunk at
unfolding most_decisions
read_on-ends_from wanted chunk at bounds possible =
    elim (longer wanted chunk at 36) [
      | inl same ↦ same
      | inr e ↦ full_ends wanted chunk (steps 36 wanted chunk at) e (goes_from wanted chunk at 36 bounds possible)
          (comes wanted chunk (steps 36 wanted chunk at))
    ]

pub read_on-ends : (wanted : Wanted) (chunk : Chunk) (states : Name → ℕ) (place : Option Interval) → AreBounds wanted.low wanted.high →
    step wanted chunk (read_on wanted chunk (begun states place)) ≡ read_on wanted chunk (begun states place)
read_on-ends wanted chunk states place bounds = read_on-ends_from wanted chunk (begun states place) bounds tt

without : (given : Decision) (value : ℤ) → answer_without given ≡ answer.Number value → ⊥
without (decision.Bit bit) value e = absurd (cc)
without decision.NeedBytes value e = absurd (cc)
without decision.Exhausted value e = absurd (cc)

pub known_answer : (wanted : Wanted) (chunk : Chunk) (reading : Reading) (phase : Phase) (given : Decision) (value : ℤ) →
    (next_coded wanted chunk reading).answer ≡ given →
    answer_in wanted chunk reading phase ≡ answer.Number value → phase ≡ Known value
known_answer wanted chunk reading (Sign low high) given value e answered = absurd (without given value (ap answer_without (sym e) ∙ answered))
known_answer wanted chunk reading (Doubling side cutoff) given value e answered = absurd (without given value (ap answer_without (sym e) ∙ answered))
known_answer wanted chunk reading (Halving side cutoff range) given value e answered = absurd (without given value (ap answer_without (sym e) ∙ answered))
known_answer wanted chunk reading (Known other) given value e answered = let same : other ≡ value = cc in ap (λ (v : ℤ). Known v) same

pub answer_within : (wanted : Wanted) (chunk : Chunk) (states : Name → ℕ) (place : Option Interval) (value : ℤ) → AreBounds wanted.low wanted.high →
    answer_at wanted chunk (read_on wanted chunk (begun states place)) ≡ answer.Number value →
    IsTrue (int_le wanted.low value) × IsTrue (int_le value wanted.high)
answer_within wanted chunk states place value bounds answered =
    let reading : Reading = read_on wanted chunk (begun states place) in
    within_bounds wanted reading.decisions value (possible_after wanted chunk states place most_decisions bounds)
    (known_answer wanted chunk reading (phase_after wanted reading.decisions) (next_coded wanted chunk reading).answer value refl answered)

-- bounds that are one

abbrev IsSingle : Phase → Type 0
IsSingle (Sign low high) = low ≡ high
IsSingle (Doubling side cutoff) = side.low ≡ side.high
IsSingle (Halving side cutoff range) = side.low ≡ side.high
IsSingle (Known value) = Unit {0}

single_settled : (side : Side) (cutoff range : ℕ) (one : Bool) → (range == 1) ≡ one → side.low ≡ side.high → IsSingle (settled side cutoff range)
single_settled side cutoff range true e same = rw e tt
single_settled side cutoff range false e same = rw e same

single_halved : (side : Side) (cutoff range : ℕ) (decision one : Bool) → (range == 1) ≡ one → side.low ≡ side.high →
    IsSingle (halved side cutoff range decision)
single_halved side cutoff range decision true e same = rw e tt
single_halved side cutoff range decision false e same = rw e same

single_next : (phase : Phase) (decision : Bool) → IsSingle phase → IsSingle (next_phase phase decision)
single_next (Sign low high) true single = single
single_next (Sign low high) false single = ap opposite (sym single)
single_next (Doubling side cutoff) true single = single
single_next (Doubling side cutoff) false single = single_settled side cutoff ((cutoff + 1) / 2) ((cutoff + 1) / 2 == 1) refl single
single_next (Halving side cutoff range) decision single = single_halved side cutoff (range / 2) decision (range / 2 == 1) refl single
single_next (Known value) decision single = tt

single_after : (wanted : Wanted) (decisions : List Bool) → wanted.low ≡ wanted.high → IsSingle (phase_after wanted decisions)
single_after wanted [] same = same
single_after wanted (decision ∷ decisions) same = single_next (phase_after wanted decisions) decision (single_after wanted decisions same)

single_implied : (x : ℤ) (cutoff : ℕ) (reached : Bool) → at_least x cutoff ≡ reached → implied_by x x cutoff ≡ None → ⊥
single_implied x cutoff true e none = let some : implied_by x x cutoff ≡ Some true = rw e refl in absurd (cc (some, none))
single_implied x cutoff false e none = let some : implied_by x x cutoff ≡ Some false = rw e refl in absurd (cc (some, none))

same_implied : (low high : ℤ) (cutoff : ℕ) → low ≡ high → implied_by low high cutoff ≡ None → ⊥
same_implied low high cutoff same none = single_implied high cutoff (at_least high cutoff) refl (subst (λ (l : ℤ). implied_by l high cutoff ≡ None) same none)

never_coded : (phase : Phase) → IsSingle phase → is_known phase ≡ false → implied phase ≡ None → ⊥
never_coded (Sign low high) single unknown none = same_implied low high 0 single none
never_coded (Doubling side cutoff) single unknown none = same_implied side.low side.high cutoff single none
never_coded (Halving side cutoff range) single unknown none = same_implied side.low side.high cutoff single none
never_coded (Known value) single unknown none = absurd (cc)

pub record CodesNothing (states : Name → ℕ) (place : Option Interval) (reading : Reading) : Type 0 where
  pub none : reading.coded ≡ 0
  pub states_stay : reading.states ≡ states
  pub place_stays : reading.place ≡ place

still_by : (wanted : Wanted) (chunk : Chunk) (states : Name → ℕ) (place : Option Interval) (reading : Reading) → wanted.low ≡ wanted.high →
    CodesNothing states place reading → Comes wanted chunk reading →
    CodesNothing states place (step wanted chunk reading)
still_by wanted chunk states place reading same still (knows value phase e) = subst (CodesNothing states place) (sym e) still
still_by wanted chunk states place reading same still (waits none unknown e) = subst (CodesNothing states place) (sym e) still
still_by wanted chunk states place reading same still (implies bit given e) =
    subst (CodesNothing states place) (sym e) (record { none = still.none; states_stay = still.states_stay; place_stays = still.place_stays })
still_by wanted chunk states place reading same still (codes bit unknown none e) =
    absurd (never_coded (phase_after wanted reading.decisions) (single_after wanted reading.decisions same) unknown none)

still_after : (wanted : Wanted) (chunk : Chunk) (states : Name → ℕ) (place : Option Interval) (count : ℕ) → wanted.low ≡ wanted.high →
    CodesNothing states place (steps count wanted chunk (begun states place))
still_after wanted chunk states place zero same = record { none = refl; states_stay = refl; place_stays = refl }
still_after wanted chunk states place (suc count) same =
    still_by wanted chunk states place (steps count wanted chunk (begun states place)) same (still_after wanted chunk states place count same)
    (comes wanted chunk (steps count wanted chunk (begun states place)))

pub single_still : (wanted : Wanted) (chunk : Chunk) (states : Name → ℕ) (place : Option Interval) → wanted.low ≡ wanted.high →
    CodesNothing states place (read_on wanted chunk (begun states place))
single_still wanted chunk states place same = still_after wanted chunk states place most_decisions same

pos_same : (a b : ℕ) → pos a ≡ pos b → a ≡ b
pos_same a b e = cc

negsuc_same : (a b : ℕ) → negsuc a ≡ negsuc b → a ≡ b
negsuc_same a b e = cc

one_positive : (l h v : ℕ) → l ≡ h → IsTrue (int_le (pos l) (pos v)) → IsTrue (int_le (pos v) (pos h)) → pos v ≡ pos l
one_positive l h v same least most = let e : v ≡ l = grind (arith, common_steps) in ap pos e

one_negative : (l h v : ℕ) → l ≡ h → IsTrue (int_le (negsuc l) (negsuc v)) → IsTrue (int_le (negsuc v) (negsuc h)) → negsuc v ≡ negsuc l
one_negative l h v same least most = let e : v ≡ l = grind (arith, common_steps) in ap negsuc e

one_value : (low high value : ℤ) → low ≡ high → IsTrue (int_le low value) → IsTrue (int_le value high) → value ≡ low
one_value (pos l) (pos h) (pos v) same least most = one_positive l h v (pos_same l h same) least most
one_value (pos l) (pos h) (negsuc v) same least most = absurd (cc)
one_value (negsuc l) (negsuc h) (negsuc v) same least most = one_negative l h v (negsuc_same l h same) least most
one_value (negsuc l) (negsuc h) (pos v) same least most = absurd (cc)
one_value (pos l) (negsuc h) value same least most = absurd (cc)
one_value (negsuc l) (pos h) value same least most = absurd (cc)

same_length : (xs : List Bool) (bit : Bool) → bit ∷ xs ≡ xs → ⊥
same_length xs bit e = let n : suc (length xs) ≡ length xs = ap length e in absurd (omega (arith, n))

single_by : (wanted : Wanted) (chunk : Chunk) (reading : Reading) → wanted.low ≡ wanted.high → ArePossible wanted reading.decisions →
    step wanted chunk reading ≡ reading → Comes wanted chunk reading →
    answer_at wanted chunk reading ≡ answer.Number wanted.low
single_by wanted chunk reading same possible last (knows value phase e) =
    let within = within_bounds wanted reading.decisions value possible phase in
    ap (answer_in wanted chunk reading) phase ∙ ap (λ (v : ℤ). answer.Number v) (one_value wanted.low wanted.high value same within.0 within.1)
single_by wanted chunk reading same possible last (waits none unknown e) =
    absurd (never_coded (phase_after wanted reading.decisions) (single_after wanted reading.decisions same) unknown none)
single_by wanted chunk reading same possible last (implies bit given e) =
    absurd (same_length reading.decisions bit (ap (λ (r : Reading). r.decisions) (sym e ∙ last)))
single_by wanted chunk reading same possible last (codes bit unknown none e) =
    absurd (never_coded (phase_after wanted reading.decisions) (single_after wanted reading.decisions same) unknown none)

pub single_answer : (wanted : Wanted) (chunk : Chunk) (states : Name → ℕ) (place : Option Interval) → AreBounds wanted.low wanted.high →
    wanted.low ≡ wanted.high →
    answer_at wanted chunk (read_on wanted chunk (begun states place)) ≡ answer.Number wanted.low
single_answer wanted chunk states place bounds same =
    let reading : Reading = read_on wanted chunk (begun states place) in
    single_by wanted chunk reading same (possible_after wanted chunk states place most_decisions bounds) (read_on-ends wanted chunk states place bounds)
    (comes wanted chunk reading)
