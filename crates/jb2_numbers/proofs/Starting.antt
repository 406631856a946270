-- The type of a record, from 0 to 11, has a decision that is coded.
use Rattle.std.proofs.Common.{◌≡◌, ◌<◌, ℕ, zero, suc, Bool, true, List, [], ◌∷◌, refl, sym, ap, ◌∙◌, arith}
use Rattle.std.specs.Prelude.{Option, Some, None, ℤ, pos}
use Rattle.zp_decoder.specs.declared.decoder.Decision.{Decision}
use Rattle.zp_decoder.specs.declared.decoder.Decision.TheVariants as decision
use Rattle.zp_decoder.specs.Decision.{Interval}
use Rattle.zp_decoder.specs.Chunk.{Chunk}
use Rattle.jb2_numbers.specs.declared.roots.Root.{Root}
use Rattle.jb2_numbers.specs.Answer as answer
use Rattle.jb2_numbers.specs.Contexts.{Name}
use Rattle.jb2_numbers.specs.Phases.{implied, Known}
use Rattle.jb2_numbers.specs.Number.{Wanted, wanted, Reading, phase_after, begun, name_at, next_coded, with_implied, with_coded, step_in, step, steps, most_decisions, read_on, answer_at}
use Rattle.jb2_numbers.proofs.Stepping.{step_in_implied, step_in_coded}
use Rattle.jb2_numbers.proofs.Ending.{known_answer}
use Rattle.jb2_numbers.proofs.Cutting.{Turns, knows, implies, codes, turns}

-- nothing was read, or the sign, which is implied; or a decision was coded
data Begins (reading : Reading) : Type 0 where
  nothing : reading.decisions ≡ [] → Begins reading
  sign : reading.decisions ≡ true ∷ [] → Begins reading
  some : 0 < reading.coded → Begins reading

begins_by : (reading next : Reading) → next ≡ reading → Begins reading → Begins next
begins_by reading next e (nothing is) = nothing (ap (λ (r : Reading). r.decisions) e ∙ is)
begins_by reading next e (sign is) = sign (ap (λ (r : Reading). r.decisions) e ∙ is)
begins_by reading next e (some more) = let same : next.coded ≡ reading.coded = ap (λ (r : Reading). r.coded) e in some (omega arith)

module _ (root : Root) (from : Chunk) where
  abbrev type : Wanted
  type = wanted root (pos 0) (pos 11)

  abbrev next_by : Reading → Decision → Reading
  next_by reading given = with_coded reading (name_at type reading) (next_coded type from reading) given

  coded_begins : (reading next : Reading) (given : Decision) → next ≡ next_by reading given → Begins reading → Begins next
  coded_begins reading next (decision.Bit bit) e begins = let more : next.coded ≡ suc reading.coded = ap (λ (r : Reading). r.coded) e in some (omega arith)
  coded_begins reading next decision.NeedBytes e begins = begins_by reading next e begins
  coded_begins reading next decision.Exhausted e begins = begins_by reading next e begins

  implied_begins : (reading next : Reading) (bit : Bool) → implied (phase_after type reading.decisions) ≡ Some bit → next ≡ with_implied reading bit →
      Begins reading → Begins next
  implied_begins reading next bit i e (nothing is) =
      let first : implied (phase_after type reading.decisions) ≡ Some true = ap (λ (ds : List Bool). implied (phase_after type ds)) is in
      let up : bit ≡ true = cc in
      sign (ap (λ (r : Reading). r.decisions) e ∙ (ap (λ (b : Bool). b ∷ reading.decisions) up ∙ ap (λ (ds : List Bool). true ∷ ds) is))
  implied_begins reading next bit i e (sign is) =
      let second : implied (phase_after type reading.decisions) ≡ None = ap (λ (ds : List Bool). implied (phase_after type ds)) is in
      absurd (cc)
  implied_begins reading next bit i e (some more) = let same : next.coded ≡ reading.coded = ap (λ (r : Reading). r.coded) e in some (omega arith)

  step_begins : (reading : Reading) → Turns type reading.decisions → Begins reading → Begins (step type from reading)
  step_begins reading (knows value e) begins = begins_by reading (step type from reading) (ap (step_in type from reading) e) begins
  step_begins reading (implies bit e) begins =
      implied_begins reading (step type from reading) bit e (step_in_implied type from reading (phase_after type reading.decisions) bit e) begins
  step_begins reading (codes unknown e) begins =
      coded_begins reading (step type from reading) (next_coded type from reading).answer
      (step_in_coded type from reading (phase_after type reading.decisions) unknown e) begins

  begins_after : (states : Name → ℕ) (place : Option Interval) (count : ℕ) → Begins (steps count type from (begun states place))
  begins_after states place zero = nothing refl
  begins_after states place (suc count) =
      step_begins (steps count type from (begun states place)) (turns type (steps count type from (begun states place)).decisions)
      (begins_after states place count)

  begins_known : (reading : Reading) (value : ℤ) → phase_after type reading.decisions ≡ Known value → Begins reading → 0 < reading.coded
  begins_known reading value known (nothing is) =
      let first : phase_after type reading.decisions ≡ phase_after type [] = ap (phase_after type) is in absurd (let same = sym first ∙ known in cc)
  begins_known reading value known (sign is) =
      let second : phase_after type reading.decisions ≡ phase_after type (true ∷ []) = ap (phase_after type) is in absurd (let same = sym second ∙ known in cc)
  begins_known reading value known (some more) = more

  pub type_codes : (states : Name → ℕ) (place : Option Interval) (value : ℤ) →
      answer_at type from (read_on type from (begun states place)) ≡ answer.Number value →
      0 < (read_on type from (begun states place)).coded
  type_codes states place value answered =
      let reading : Reading = read_on type from (begun states place) in
      begins_known reading value (known_answer type from reading (phase_after type reading.decisions) (next_coded type from reading).answer value refl answered)
      (begins_after states place most_decisions)
