-- A number that is known lies within its bounds.
use Rattle.std.proofs.Common.{◌≡◌, ◌≤◌, ◌<◌, ◌+◌, ◌-◌, ◌*◌, ◌/◌, ◌^◌, ◌==◌, ℕ, zero, suc, ℤ, pos, negsuc, Bool, true, false, not, List, [], ◌∷◌, refl, sym, subst, ◌∙◌, arith}
use Rattle.std.specs.Prelude.{int_le, IsTrue}
use Rattle.std.proofs.lemmas.Grind.{common_steps}
use Rattle.std.proofs.lemmas.Nat.{pow_pos}
use Rattle.std.proofs.Math.Nat.{pow-suc}
use Rattle.jb2_numbers.specs.Phases.{at_least, opposite, side_of, number_of, halved, settled, next_phase, allows, allows_by, Side, Phase, Sign, Doubling, Halving, Known}
use Rattle.jb2_numbers.specs.Number.{Wanted, phase_after, ArePossible}

pub record IsWithin (wanted : Wanted) (value : ℤ) : Type 0 where
  pub least : IsTrue (int_le wanted.low value)
  pub most : IsTrue (int_le value wanted.high)

-- a size between the bounds of a side is that of a number within the bounds
pub record Holds (wanted : Wanted) (side : Side) : Type 0 where
  pub within : (size : ℕ) → IsTrue (at_least side.high size) → IsTrue (not (at_least side.low (size + 1))) → IsWithin wanted (number_of side size)

pub record Doubles (wanted : Wanted) (side : Side) (cutoff : ℕ) : Type 0 where
  pub side_holds : Holds wanted side
  pub exponent : ℕ
  pub power : cutoff + 1 ≡ 2 ^ suc exponent
  pub reached : IsTrue (at_least side.high (cutoff / 2))

pub record Halves (wanted : Wanted) (side : Side) (cutoff range : ℕ) : Type 0 where
  pub side_holds : Holds wanted side
  pub exponent : ℕ
  pub power : range ≡ 2 ^ suc exponent
  pub room : range ≤ cutoff
  pub reached : IsTrue (at_least side.high (cutoff - range / 2))
  pub missed : IsTrue (not (at_least side.low (cutoff + range / 2)))

abbrev pub Keeps : Wanted → Phase → Type 0
Keeps wanted (Sign low high) = (low ≡ wanted.low) × (high ≡ wanted.high)
Keeps wanted (Doubling side cutoff) = Doubles wanted side cutoff
Keeps wanted (Halving side cutoff range) = Halves wanted side cutoff range
Keeps wanted (Known value) = IsWithin wanted value

positive_least : (low : ℤ) (size : ℕ) → IsTrue (not (at_least low (size + 1))) → IsTrue (int_le low (pos size))
positive_least (pos m) size missed = grind (arith, common_steps)
positive_least (negsuc m) size missed = refl

positive_most : (high : ℤ) (size : ℕ) → IsTrue (at_least high size) → IsTrue (int_le (pos size) high)
positive_most (pos m) size reached = grind (arith, common_steps)
positive_most (negsuc m) size reached = absurd (cc)

negative_least : (low : ℤ) (size : ℕ) → IsTrue (at_least (opposite low) size) → IsTrue (int_le low (negsuc size))
negative_least (pos m) size reached = absurd (cc)
negative_least (negsuc m) size reached = grind (arith, common_steps)

negative_most : (high : ℤ) (size : ℕ) → IsTrue (not (at_least (opposite high) (size + 1))) → IsTrue (int_le (negsuc size) high)
negative_most (pos m) size missed = refl
negative_most (negsuc m) size missed = grind (arith, common_steps)

side_holds_by : (wanted : Wanted) (decision : Bool) → Holds wanted (side_of wanted.low wanted.high decision)
side_holds_by wanted true = record {
  within = λ size reached missed. record {
    least = positive_least wanted.low size missed;
    most =
        positive_most wanted.high size reached;
  };
}
side_holds_by wanted false = record {
  within = λ size reached missed. record {
    least = negative_least wanted.low size reached;
    most =
        negative_most wanted.high size missed;
  };
}

opposite_reached : (low : ℤ) → IsTrue (not (at_least low 0)) → IsTrue (at_least (opposite low) 0)
opposite_reached (pos m) missed = grind (arith, common_steps)
opposite_reached (negsuc m) missed = grind (arith, common_steps)

first_reached : (low high : ℤ) (decision : Bool) → IsTrue (allows_by low high 0 decision) → IsTrue (at_least (side_of low high decision).high 0)
first_reached low high true allowed = allowed
first_reached low high false allowed = opposite_reached low allowed

-- the same at a cutoff that is equal
reached_at : (high : ℤ) (a b : ℕ) → a ≡ b → IsTrue (at_least high a) → IsTrue (at_least high b)
reached_at high a b e h = subst (λ (c : ℕ). IsTrue (at_least high c)) e h

missed_at : (low : ℤ) (a b : ℕ) → a ≡ b → IsTrue (not (at_least low a)) → IsTrue (not (at_least low b))
missed_at low a b e h = subst (λ (c : ℕ). IsTrue (not (at_least low c))) e h

first_keeps : (wanted : Wanted) (low high : ℤ) (decision : Bool) → (low ≡ wanted.low) × (high ≡ wanted.high) → IsTrue (allows_by low high 0 decision) →
    Doubles wanted (side_of low high decision) 1
first_keeps wanted low high decision same allowed = record {
  side_holds = subst (λ (l : ℤ). Holds wanted (side_of l high decision)) (sym same.0)
      (subst (λ (h : ℤ). Holds wanted (side_of wanted.low h decision)) (sym same.1) (side_holds_by wanted decision));
  exponent = zero;
  power = refl;
  reached = first_reached low high decision allowed;
}

pub not_one : (range half : ℕ) → range ≡ half * 2 → 0 < half → (range == 1) ≡ false
not_one range half double some = grind (arith, common_steps)

-- the settled range is half of what the cutoff counts
settled_by : (wanted : Wanted) (side : Side) (cutoff range exponent : ℕ) → range ≡ 2 ^ exponent → cutoff + 1 ≡ 2 * range → Holds wanted side →
    IsTrue (at_least side.high (cutoff / 2)) →
    IsTrue (not (at_least side.low cutoff)) → Keeps wanted (settled side cutoff range)
settled_by wanted side cutoff range zero power twice holds reached missed =
    let one : range ≡ 1 = power in
    let cut : cutoff ≡ 1 = omega (arith, one, twice) in
    subst (λ (r : ℕ). Keeps wanted (settled side cutoff r)) (sym one)
    (holds.within 0 (reached_at side.high (cutoff / 2) 0 (omega (arith, cut)) reached) (missed_at side.low cutoff (0 + 1) (omega (arith, cut)) missed))
settled_by wanted side cutoff range (suc exponent) power twice holds reached missed =
    let double : range ≡ 2 ^ exponent * 2 = power ∙ pow-suc 2 exponent in
    let some : 0 < 2 ^ exponent = pow_pos exponent in
    let more : (range == 1) ≡ false = not_one range (2 ^ exponent) double some in
    let evenly : range / 2 + range / 2 ≡ range = omega (arith, double) in
    rw more (record {
      side_holds = holds;
      exponent = exponent;
      power = power;
      room = omega (arith, double, twice, some);
      reached = reached_at side.high (cutoff / 2) (cutoff - range / 2 - range / 2) (omega (arith, double, twice)) reached;
      missed = missed_at side.low cutoff (cutoff - range / 2 + range / 2) (omega (arith, double, twice)) missed;
    })

settled_keeps : (wanted : Wanted) (side : Side) (cutoff : ℕ) → Doubles wanted side cutoff → IsTrue (not (at_least side.low cutoff)) →
    Keeps wanted (settled side cutoff ((cutoff + 1) / 2))
settled_keeps wanted side cutoff doubles missed =
    let power : cutoff + 1 ≡ 2 ^ doubles.exponent * 2 = doubles.power ∙ pow-suc 2 doubles.exponent in
    settled_by wanted side cutoff ((cutoff + 1) / 2) doubles.exponent (omega (arith, power)) (omega (arith, power)) doubles.side_holds doubles.reached missed

doubled_keeps : (wanted : Wanted) (side : Side) (cutoff : ℕ) → Doubles wanted side cutoff → IsTrue (at_least side.high cutoff) →
    Doubles wanted side (2 * cutoff + 1)
doubled_keeps wanted side cutoff doubles reached =
    let power : cutoff + 1 ≡ 2 ^ suc doubles.exponent = doubles.power in
    record {
      side_holds = doubles.side_holds;
      exponent = suc doubles.exponent;
      power = rw (pow-suc 2 (suc doubles.exponent)) (omega (arith, power));
      reached = reached_at side.high cutoff ((2 * cutoff + 1) / 2) (omega arith) reached;
    }

halved_true : (wanted : Wanted) (side : Side) (cutoff range half exponent : ℕ) → half ≡ 2 ^ exponent → range ≡ 2 * half → range / 2 ≡ half →
    Holds wanted side → range ≤ cutoff →
    IsTrue (at_least side.high cutoff) → IsTrue (not (at_least side.low (cutoff + range / 2))) → Keeps wanted (halved side cutoff half true)
halved_true wanted side cutoff range half zero power twice is holds room reached missed =
    let one : half ≡ 1 = power in
    subst (λ (r : ℕ). Keeps wanted (halved side cutoff r true)) (sym one)
    (holds.within cutoff reached (missed_at side.low (cutoff + range / 2) (cutoff + 1) (omega (arith, one, is)) missed))
halved_true wanted side cutoff range half (suc exponent) power twice is holds room reached missed =
    let double : half ≡ 2 ^ exponent * 2 = power ∙ pow-suc 2 exponent in
    let some : 0 < 2 ^ exponent = pow_pos exponent in
    let more : (half == 1) ≡ false = not_one half (2 ^ exponent) double some in
    rw more (record {
      side_holds = holds;
      exponent = exponent;
      power = power;
      room = omega (arith, twice, room);
      reached = reached_at side.high cutoff (cutoff + half / 2 - half / 2) (omega arith) reached;
      missed = missed_at side.low (cutoff + range / 2) (cutoff + half / 2 + half / 2) (omega (arith, double, is)) missed;
    })

halved_false : (wanted : Wanted) (side : Side) (cutoff range half exponent : ℕ) → half ≡ 2 ^ exponent → range ≡ 2 * half → range / 2 ≡ half →
    Holds wanted side → range ≤ cutoff →
    IsTrue (at_least side.high (cutoff - range / 2)) → IsTrue (not (at_least side.low cutoff)) → Keeps wanted (halved side cutoff half false)
halved_false wanted side cutoff range half zero power twice is holds room reached missed =
    let one : half ≡ 1 = power in
    subst (λ (r : ℕ). Keeps wanted (halved side cutoff r false)) (sym one)
    (holds.within (cutoff - 1) (reached_at side.high (cutoff - range / 2) (cutoff - 1) (omega (arith, one, is)) reached)
    (missed_at side.low cutoff (cutoff - 1 + 1) (omega (arith, one, twice, room)) missed))
halved_false wanted side cutoff range half (suc exponent) power twice is holds room reached missed =
    let double : half ≡ 2 ^ exponent * 2 = power ∙ pow-suc 2 exponent in
    let some : 0 < 2 ^ exponent = pow_pos exponent in
    let more : (half == 1) ≡ false = not_one half (2 ^ exponent) double some in
    rw more (record {
      side_holds = holds;
      exponent = exponent;
      power = power;
      room = omega (arith, twice, room);
      reached = reached_at side.high (cutoff - range / 2) (cutoff - half / 2 - half / 2) (omega (arith, double, is)) reached;
      missed = missed_at side.low cutoff (cutoff - half / 2 + half / 2) (omega (arith, twice, room)) missed;
    })

halved_keeps : (wanted : Wanted) (side : Side) (cutoff range : ℕ) (decision : Bool) → Halves wanted side cutoff range →
    IsTrue (allows_by side.low side.high cutoff decision) →
    Keeps wanted (halved side cutoff (range / 2) decision)
halved_keeps wanted side cutoff range true halves allowed =
    let power : range ≡ 2 ^ halves.exponent * 2 = halves.power ∙ pow-suc 2 halves.exponent in
    halved_true wanted side cutoff range (range / 2) halves.exponent (omega (arith, power))
    (omega (arith, power)) refl halves.side_holds halves.room allowed halves.missed
halved_keeps wanted side cutoff range false halves allowed =
    let power : range ≡ 2 ^ halves.exponent * 2 = halves.power ∙ pow-suc 2 halves.exponent in
    halved_false wanted side cutoff range (range / 2) halves.exponent (omega (arith, power))
    (omega (arith, power)) refl halves.side_holds halves.room halves.reached allowed

next_keeps : (wanted : Wanted) (phase : Phase) (decision : Bool) → Keeps wanted phase → IsTrue (allows phase decision) →
    Keeps wanted (next_phase phase decision)
next_keeps wanted (Sign low high) decision keeps allowed = first_keeps wanted low high decision keeps allowed
next_keeps wanted (Doubling side cutoff) true keeps allowed = doubled_keeps wanted side cutoff keeps allowed
next_keeps wanted (Doubling side cutoff) false keeps allowed = settled_keeps wanted side cutoff keeps allowed
next_keeps wanted (Halving side cutoff range) decision keeps allowed = halved_keeps wanted side cutoff range decision keeps allowed
next_keeps wanted (Known value) decision keeps allowed = absurd (cc)

pub phase_keeps : (wanted : Wanted) (decisions : List Bool) → ArePossible wanted decisions → Keeps wanted (phase_after wanted decisions)
phase_keeps wanted [] possible = (refl, refl)
phase_keeps wanted (decision ∷ decisions) possible = next_keeps wanted (phase_after wanted decisions) decision
    (phase_keeps wanted decisions possible.0) possible.1

pub within_bounds : (wanted : Wanted) (decisions : List Bool) (value : ℤ) → ArePossible wanted decisions → phase_after wanted decisions ≡ Known value →
    IsTrue (int_le wanted.low value) × IsTrue (int_le value wanted.high)
within_bounds wanted decisions value possible known =
    let within : IsWithin wanted value = subst (Keeps wanted) known (phase_keeps wanted decisions possible) in
    (within.least, within.most)
