-- The bits of a number that are decided are read as this number.
use Rattle.std.proofs.Common.{◌≡◌, ℕ, zero, suc, ◌+◌, ℤ, Bool, false, List, [], ◌∷◌, ◌++◌, refl, sym, ap, subst, ◌∙◌, arith}
use Rattle.std.specs.Prelude.{Option, Some, None}
use Rattle.std.proofs.lemmas.List.{append_assoc}
use Rattle.zp_decoder.specs.declared.decoder.Decision.TheVariants as decision
use Rattle.zp_decoder.specs.Decision.{Outcome}
use Rattle.zp_decoder.specs.Chunk.{Chunk}
use Rattle.jb2_numbers.specs.declared.roots.Root.{Root}
use Rattle.jb2_numbers.specs.Contexts.{name}
use Rattle.jb2_numbers.specs.Phases.{Phase, Sign, Doubling, Halving, Known, implied, is_known, decided}
use Rattle.jb2_numbers.specs.Number.{Wanted, wanted, Reading, begun, phase_after, name_at, next_coded, with_implied, with_coded, step_in, step, steps, most_decisions, read_on, answer_in, with_decided, first_decisions, decisions_of}
use Rattle.jb2_numbers.proofs.Lemmas.{step_in_implied, step_in_coded}
use Rattle.jb2_records.specs.Coding.{Coder, after_number, number_by, read_number}
use Rattle.jb2_writer.specs.Coded.{Coded, Bit, Number, coded_where, coded_of, number_coded}
use Rattle.jb2_writer.specs.Decided.{AreDecided}
use Rattle.jb2_writer.proofs.Joining.{Codes}

-- what a value says in a phase
data Says (value : ℤ) (decisions : List Bool) (phase : Phase) : Type 0 where
  known : (x : ℤ) → phase ≡ Known x → with_decided value decisions phase ≡ decisions → Says value decisions phase
  one : is_known phase ≡ false → with_decided value decisions phase ≡ decided value phase ∷ decisions → Says value decisions phase

says : (value : ℤ) (decisions : List Bool) (phase : Phase) → Says value decisions phase
says value decisions (Sign low high) = one refl refl
says value decisions (Doubling side cutoff) = one refl refl
says value decisions (Halving side cutoff range) = one refl refl
says value decisions (Known x) = known x refl refl

-- a reading has taken these decisions, and the later bits are decided from there on
record Stands (source : Chunk) (at : Coder) (decisions : List Bool) (later : List Coded) (to : Coder) (reading : Reading) : Type 0 where
  taken : reading.decisions ≡ decisions
  decided : AreDecided source (after_number at reading) later to

-- a decision that is implied is the value's own
abbrev pub IsImplied : Wanted → ℤ → Type 0
IsImplied number value =
    (count : ℕ) (bit : Bool) → implied (phase_after number (first_decisions count number value)) ≡ Some bit →
    bit ≡ decided value (phase_after number (first_decisions count number value))

module _ (source : Chunk) (number : Wanted) (value : ℤ) (at to : Coder) where
  abbrev Coder_with : Reading → ℕ → Coder
  Coder_with reading decisions = record {
    numbers = reading.states;
    pixels = at.pixels;
    flag = at.flag;
    row = at.row;
    place = reading.place;
    decisions = decisions;
  }

  known_on : (decisions : List Bool) (later : List Coded) (reading : Reading) (x : ℤ) → phase_after number decisions ≡ Known x →
      Stands source at decisions later to reading → Stands source at decisions later to (step number source reading)
  known_on decisions later reading x e stands =
      let phase : phase_after number reading.decisions ≡ Known x = ap (phase_after number) stands.taken ∙ e in
      let same : step number source reading ≡ reading = ap (step_in number source reading) phase in
      subst (Stands source at decisions later to) (sym same) stands

  implied_on : (decisions : List Bool) (later : List Coded) (reading : Reading) (bit : Bool) → implied (phase_after number decisions) ≡ Some bit →
      Stands source at decisions later to reading → Stands source at (bit ∷ decisions) later to (step number source reading)
  implied_on decisions later reading bit e stands =
      let phase : implied (phase_after number reading.decisions) ≡ Some bit = ap (λ (ds : List Bool). implied (phase_after number ds)) stands.taken ∙ e in
      let same : step number source reading ≡ with_implied reading bit =
      step_in_implied number source reading (phase_after number reading.decisions) bit phase in
      subst (Stands source at (bit ∷ decisions) later to) (sym same)
      (record { taken = ap (λ (ds : List Bool). bit ∷ ds) stands.taken; decided = stands.decided })

  coded_on : (decisions : List Bool) (later : List Coded) (reading : Reading) (bit : Bool) → is_known (phase_after number decisions) ≡ false →
      implied (phase_after number decisions) ≡ None → Stands source at decisions (Bit (Number (name number.root decisions)) bit ∷ later) to reading →
      Stands source at (bit ∷ decisions) later to (step number source reading)
  coded_on decisions later reading bit unknown e stands =
      let o : Outcome = next_coded number source reading in
      let here : AreDecided source (after_number at reading) (Bit (Number (name number.root reading.decisions)) bit ∷ later) to =
      subst (λ (ds : List Bool). AreDecided source (after_number at reading) (Bit (Number (name number.root ds)) bit ∷ later) to) (sym stands.taken)
      stands.decided in
      let answered : (next_coded number source reading).answer ≡ decision.Bit bit = here.0 in
      let same : step number source reading ≡ with_coded reading (name_at number reading) o (decision.Bit bit) =
      step_in_coded number source reading (phase_after number reading.decisions)
      (ap (λ (ds : List Bool). is_known (phase_after number ds)) stands.taken ∙ unknown)
      (ap (λ (ds : List Bool). implied (phase_after number ds)) stands.taken ∙ e)
      ∙ ap (with_coded reading (name_at number reading) o) answered in
      let next : Reading = with_coded reading (name_at number reading) o (decision.Bit bit) in
      let sum : at.decisions + reading.coded + 1 ≡ at.decisions + suc reading.coded = omega arith in
      subst (Stands source at (bit ∷ decisions) later to) (sym same) (record {
        taken = ap (λ (ds : List Bool). bit ∷ ds) stands.taken;
        decided = subst (λ (n : ℕ). AreDecided source (Coder_with next n) later to) sum here.1;
      })

  -- the bit of a decision, coded or implied
  bit_on : (decisions : List Bool) (later : List Coded) (reading : Reading) (given : Option Bool) → is_known (phase_after number decisions) ≡ false →
      implied (phase_after number decisions) ≡ given →
      ((bit : Bool) → given ≡ Some bit → bit ≡ decided value (phase_after number decisions)) →
      Stands source at decisions (coded_where given (name number.root decisions) (decided value (phase_after number decisions)) ++ later) to reading →
      Stands source at (decided value (phase_after number decisions) ∷ decisions) later to (step number source reading)
  bit_on decisions later reading None unknown e own stands =
      coded_on decisions later reading (decided value (phase_after number decisions)) unknown e stands
  bit_on decisions later reading (Some bit) unknown e own stands =
      implied_on decisions later reading (decided value (phase_after number decisions)) (e ∙ ap (λ (b : Bool). Some b) (own bit refl)) stands

  step_on : (decisions : List Bool) (later : List Coded) (reading : Reading) → Says value decisions (phase_after number decisions) →
      ((bit : Bool) → implied (phase_after number decisions) ≡ Some bit → bit ≡ decided value (phase_after number decisions)) →
      ((more : List Coded) → AreDecided source at (coded_of number decisions ++ more) to → Stands source at decisions more to reading) →
      AreDecided source at (coded_of number (with_decided value decisions (phase_after number decisions)) ++ later) to →
      Stands source at (with_decided value decisions (phase_after number decisions)) later to (step number source reading)
  step_on decisions later reading (known x e same) own before given =
      let here : AreDecided source at (coded_of number decisions ++ later) to =
      subst (λ (ds : List Bool). AreDecided source at (coded_of number ds ++ later) to) same given in
      subst (λ (ds : List Bool). Stands source at ds later to (step number source reading)) (sym same)
      (known_on decisions later reading x e (before later here))
  step_on decisions later reading (one unknown same) own before given =
      let phase : Phase = phase_after number decisions in
      let bits : List Coded = coded_where (implied phase) (name number.root decisions) (decided value phase) in
      let there : AreDecided source at (coded_of number decisions ++ bits ++ later) to =
      subst (λ (ds : List Bool). AreDecided source at (coded_of number ds ++ later) to) same given in
      let here : AreDecided source at (coded_of number decisions ++ (bits ++ later)) to =
      subst (λ (all : List Coded). AreDecided source at all to) (append_assoc (coded_of number decisions) bits later) there in
      subst (λ (ds : List Bool). Stands source at ds later to (step number source reading)) (sym same)
      (bit_on decisions later reading (implied (phase_after number decisions)) unknown refl own (before (bits ++ later) here))

  none_on : (later : List Coded) → AreDecided source at later to → Stands source at [] later to (begun at.numbers at.place)
  none_on later given =
      let sum : at.decisions ≡ at.decisions + 0 = omega arith in
      record { taken = refl; decided = subst (λ (n : ℕ). AreDecided source (Coder_with (begun at.numbers at.place) n) later to) sum given }

  steps_on : (count : ℕ) (later : List Coded) → IsImplied number value →
      AreDecided source at (coded_of number (first_decisions count number value) ++ later) to →
      Stands source at (first_decisions count number value) later to (steps count number source (begun at.numbers at.place))
  steps_on zero later own given = none_on later given
  steps_on (suc count) later own given =
      step_on (first_decisions count number value) later (steps count number source (begun at.numbers at.place))
      (says value (first_decisions count number value) (phase_after number (first_decisions count number value))) (own count)
      (λ more here. steps_on count more own here) given

-- what the law of numbers gives of one
pub record IsReached (number : Wanted) (value : ℤ) : Type 0 where
  pub reached : phase_after number (decisions_of number value) ≡ Known value
  pub own : IsImplied number value

pub number_codes : (source : Chunk) (root : Root) (low high value : ℤ) → IsReached (wanted root low high) value →
    Codes ℤ source (number_coded root low high value) (λ at. read_number source root low high at) value
number_codes source root low high value reached at to later given =
    let number : Wanted = wanted root low high in
    let stands = steps_on source number value at to most_decisions later reached.own given in
    let reading : Reading = read_on number source (begun at.numbers at.place) in
    let phase : phase_after number reading.decisions ≡ Known value = ap (phase_after number) stands.taken ∙ reached.reached in
    record {
      next = after_number at reading;
      got = ap (λ (p : Phase). number_by (answer_in number source reading p) reading at) phase;
      decided = stands.decided;
    }
