-- What phases keep to, and how many decisions lead to them.
use Rattle.std.proofs.Common.{◌≡◌, ◌≤◌, ◌<◌, ◌+◌, ◌-◌, ◌*◌, ◌/◌, ◌^◌, ◌==◌, ℕ, zero, suc, ℤ, pos, negsuc, add-one, pow-add, Bool, true, false, not, List, length, refl, sym, ap, subst, ◌∙◌, arith}
use Rattle.std.specs.Prelude.{Some, None, nat_le, int_le, IsTrue, if◌then◌else◌}
use Rattle.std.proofs.lemmas.Grind.{common_steps}
use Rattle.std.proofs.Math.Nat.{pow-suc, mul-le-mul_right}
use Rattle.std.proofs.Math.Pow.{pow_mono}
use Rattle.jb2_numbers.specs.declared.paths.Path.{Path}
use Rattle.jb2_numbers.specs.Phases.{at_least, side_of, number_of, halved, settled, next_phase, implied_by, implied, allows, allows_by, Side, Phase, Sign, Doubling, Halving, Known, is_known}
use Rattle.jb2_numbers.specs.Kept.{decisions_in}
use Rattle.jb2_numbers.specs.Steps.{IsSound, is_sound, is_bounded, limit}
use Rattle.jb2_numbers.proofs.Digits.{how_many}

pub record DoublingFacts (count cutoff : ℕ) : Type 0 where
  pub some : 1 ≤ count
  pub few : count ≤ 18
  pub power : cutoff + 1 ≡ 2 ^ count

pub doubling_facts : (count : ℕ) (side : Side) (cutoff : ℕ) → IsTrue (is_sound count (Doubling side cutoff)) → DoublingFacts count cutoff
doubling_facts count side cutoff h = record {
  some = grind (arith, common_steps);
  few = grind (arith, common_steps);
  power = grind (arith, common_steps);
}

pub doubling_bounded : (count : ℕ) (side : Side) (cutoff : ℕ) → IsTrue (is_sound count (Doubling side cutoff)) → IsTrue (is_bounded side.low side.high)
doubling_bounded count side cutoff h = grind (arith, common_steps)

pub record HalvingFacts (count cutoff range : ℕ) : Type 0 where
  pub some : 2 ≤ range
  pub within : range ≤ cutoff
  pub below : cutoff + range ≤ 2 ^ 19
  pub few : range * 2 ^ count ≤ 2 ^ 36

pub halving_facts : (count : ℕ) (side : Side) (cutoff range : ℕ) → IsTrue (is_sound count (Halving side cutoff range)) → HalvingFacts count cutoff range
halving_facts count side cutoff range h = record {
  some = grind (arith, common_steps);
  within = grind (arith, common_steps);
  below = grind (arith, common_steps);
  few = grind (arith, common_steps);
}

pub halving_bounded : (count : ℕ) (side : Side) (cutoff range : ℕ) → IsTrue (is_sound count (Halving side cutoff range)) →
    IsTrue (is_bounded side.low side.high)
halving_bounded count side cutoff range h = grind (arith, common_steps)

pub halving_from_facts : (count : ℕ) (side : Side) (cutoff range : ℕ) → HalvingFacts count cutoff range → IsTrue (is_bounded side.low side.high) →
    IsTrue (is_sound count (Halving side cutoff range))
halving_from_facts count side cutoff range facts bounded = grind (arith, common_steps, facts.some, facts.within, facts.below, facts.few, bounded)

pub power_below : (count : ℕ) → count ≤ 18 → 2 ^ count ≤ 262144
power_below count few = pow_mono few

few_by : (count cutoff : ℕ) → cutoff + 1 ≡ 2 ^ count → cutoff < 262143 → (many : Bool) → nat_le 18 count ≡ many → count < 18
few_by count cutoff power low true e =
    let many : 18 ≤ count = grind (arith, common_steps) in
    let large : 2 ^ 18 ≤ 2 ^ count = pow_mono many in
    absurd (omega (arith, large, power, low))
few_by count cutoff power low false e = grind (arith, common_steps)

-- a number below 2 ^ 18 comes before the eighteenth power
pub few_more : (count cutoff : ℕ) → cutoff + 1 ≡ 2 ^ count → cutoff < 262143 → count < 18
few_more count cutoff power low = few_by count cutoff power low (nat_le 18 count) refl

pub below_limit : (high : ℤ) (cutoff : ℕ) → IsTrue (at_least high cutoff) → IsTrue (not (at_least high limit)) → cutoff < 262143
unfolding limit
below_limit (pos n) cutoff reached low =
    let a : cutoff ≤ n = grind (arith, common_steps) in
    let b : n < 262143 = grind (arith, common_steps) in
    omega arith
below_limit (negsuc n) cutoff reached low = absurd (cc)

bounded_high : (low high : ℤ) → IsTrue (is_bounded low high) → IsTrue (not (at_least high limit))
bounded_high low high h = grind (arith, common_steps)

known_sound : (count : ℕ) (value : ℤ) → count ≤ 36 → IsTrue (is_sound count (Known value))
known_sound count value few = grind (arith, common_steps)

more_than_one : (range : ℕ) → 1 ≤ range → (range == 1) ≡ false → 2 ≤ range
more_than_one range some e = grind (arith, common_steps)

not_first : (count : ℕ) (low high : ℤ) → IsTrue (is_sound (suc count) (Sign low high)) → ⊥
not_first count low high h = grind (arith, common_steps)

doubled_by : (count cutoff : ℕ) (side : Side) → 1 ≤ count + 1 → count + 1 ≤ 18 → (2 * cutoff + 1) + 1 ≡ 2 ^ (count + 1) →
    IsTrue (is_bounded side.low side.high) →
    IsTrue (is_sound (count + 1) (Doubling side (2 * cutoff + 1)))
doubled_by count cutoff side some few power bounded = grind (arith, common_steps)

doubled_sound : (count cutoff : ℕ) (side : Side) → DoublingFacts count cutoff → IsTrue (is_bounded side.low side.high) → IsTrue (at_least side.high cutoff) →
    IsTrue (is_sound (count + 1) (Doubling side (2 * cutoff + 1)))
doubled_sound count cutoff side facts bounded reached =
    let few : count < 18 = few_more count cutoff facts.power (below_limit side.high cutoff reached (bounded_high side.low side.high bounded)) in
    let next : 2 ^ (count + 1) ≡ 2 ^ count * 2 = rw add-one (pow-suc 2 count) in
    let power : cutoff + 1 ≡ 2 ^ count = facts.power in
    doubled_by count cutoff side (omega arith) (omega arith) (omega arith) bounded

-- half of a power
record HalfFacts (count cutoff range : ℕ) : Type 0 where
  twice : 2 * range ≡ cutoff + 1
  low : range ≤ 131072
  product : range * 2 ^ (count + 1) ≤ 2 ^ 36

half_facts : (count cutoff : ℕ) → DoublingFacts (suc count) cutoff → HalfFacts (suc count) cutoff ((cutoff + 1) / 2)
half_facts count cutoff facts =
    let power : cutoff + 1 ≡ 2 ^ count * 2 = facts.power ∙ pow-suc 2 count in
    let few : count ≤ 17 = omega (arith, facts.few) in
    let half : (cutoff + 1) / 2 ≡ 2 ^ count = omega arith in
    let small : 2 ^ count ≤ 2 ^ 17 = pow_mono few in
    let square : 2 ^ count * 2 ^ (suc count + 1) ≡ 2 ^ (count + (suc count + 1)) = sym (pow-add 2 count (suc count + 1)) in
    let places : count + (suc count + 1) ≤ 36 = omega arith in
    let most : 2 ^ (count + (suc count + 1)) ≤ 2 ^ 36 = pow_mono places in
    let product : 2 ^ count * 2 ^ (suc count + 1) ≤ 2 ^ 36 = rw square most in
    record {
      twice = omega arith;
      low = omega arith;
      product = rw half product;
    }

settled_by : (count cutoff range : ℕ) (side : Side) (one : Bool) → (range == 1) ≡ one → 1 ≤ range → count ≤ 18 → HalfFacts count cutoff range →
    IsTrue (is_bounded side.low side.high) →
    IsTrue (is_sound (count + 1) (settled side cutoff range))
settled_by count cutoff range side true e some few facts bounded = rw e (known_sound (count + 1) (number_of side 0) (omega arith))
settled_by count cutoff range side false e some few facts bounded =
    let more : 2 ≤ range = more_than_one range some e in
    let twice : 2 * range ≡ cutoff + 1 = facts.twice in
    let low : range ≤ 131072 = facts.low in
    rw e (halving_from_facts (count + 1) side (cutoff - range / 2) range (record {
      some = more;
      within = omega arith;
      below = omega arith;
      few = facts.product;
    }) bounded)

settled_sound : (count cutoff : ℕ) (side : Side) → DoublingFacts count cutoff → IsTrue (is_bounded side.low side.high) →
    IsTrue (is_sound (count + 1) (settled side cutoff ((cutoff + 1) / 2)))
settled_sound zero cutoff side facts bounded = absurd (omega (arith, facts.some))
settled_sound (suc count) cutoff side facts bounded =
    let half = half_facts count cutoff facts in
    let twice : 2 * ((cutoff + 1) / 2) ≡ cutoff + 1 = half.twice in
    settled_by (suc count) cutoff ((cutoff + 1) / 2) side ((cutoff + 1) / 2 == 1) refl (omega arith) facts.few half bounded

-- a half of the range takes one decision more
half_product : (count range : ℕ) → range * 2 ^ count ≤ 2 ^ 36 → (range / 2) * 2 ^ (count + 1) ≤ 2 ^ 36
half_product count range few =
    let next : 2 ^ (count + 1) ≡ 2 ^ count * 2 = rw add-one (pow-suc 2 count) in
    let half : (range / 2) * 2 ≤ range = omega arith in
    let less : ((range / 2) * 2) * 2 ^ count ≤ range * 2 ^ count = mul-le-mul_right (2 ^ count) half in
    let same : (range / 2) * (2 ^ count * 2) ≡ ((range / 2) * 2) * 2 ^ count = omega arith in
    rw next (omega (arith, same, less, few))

few_decisions_by : (count range : ℕ) → 2 ≤ range → range * 2 ^ count ≤ 2 ^ 36 → (many : Bool) → nat_le 36 count ≡ many → count < 36
few_decisions_by count range some few true e =
    let many : 36 ≤ count = grind (arith, common_steps) in
    let large : 2 ^ 36 ≤ 2 ^ count = pow_mono many in
    let twice : 2 * 2 ^ count ≤ range * 2 ^ count = mul-le-mul_right (2 ^ count) some in
    absurd (omega (arith, large, twice, few))
few_decisions_by count range some few false e = grind (arith, common_steps)

pub few_decisions : (count range : ℕ) → 2 ≤ range → range * 2 ^ count ≤ 2 ^ 36 → count < 36
few_decisions count range some few = few_decisions_by count range some few (nat_le 36 count) refl

halved_by : (count cutoff range : ℕ) (side : Side) (decision one : Bool) → ((range / 2) == 1) ≡ one → HalvingFacts count cutoff range →
    IsTrue (is_bounded side.low side.high) →
    IsTrue (is_sound (count + 1) (halved side cutoff (range / 2) decision))
halved_by count cutoff range side decision true e facts bounded =
    let few : count < 36 = few_decisions count range facts.some facts.few in
    rw e (known_sound (count + 1) (number_of side (if decision then cutoff else cutoff - 1)) (omega arith))
halved_by count cutoff range side true false e facts bounded =
    let some : 1 ≤ range / 2 = omega (arith, facts.some) in
    rw e (halving_from_facts (count + 1) side (cutoff + range / 2 / 2) (range / 2) (record {
      some = more_than_one (range / 2) some e;
      within = omega (arith, facts.within);
      below = omega (arith, facts.below);
      few = half_product count range facts.few;
    }) bounded)
halved_by count cutoff range side false false e facts bounded =
    let some : 1 ≤ range / 2 = omega (arith, facts.some) in
    rw e (halving_from_facts (count + 1) side (cutoff - range / 2 / 2) (range / 2) (record {
      some = more_than_one (range / 2) some e;
      within = omega (arith, facts.within);
      below = omega (arith, facts.below);
      few = half_product count range facts.few;
    }) bounded)

signed_sound : (count : ℕ) (low high : ℤ) (decision : Bool) → IsTrue (is_sound count (Sign low high)) →
    IsTrue (is_sound (count + 1) (Doubling (side_of low high decision) 1))
signed_sound zero low high true h = grind (arith, common_steps)
signed_sound zero low high false h = grind (arith, common_steps)
signed_sound (suc count) low high decision h = absurd (not_first count low high h)

-- the next phase keeps to it too
pub next_sound : (count : ℕ) (phase : Phase) (decision : Bool) → IsTrue (is_sound count phase) → IsTrue (allows phase decision) →
    IsTrue (is_sound (count + 1) (next_phase phase decision))
next_sound count (Sign low high) decision h allowed = signed_sound count low high decision h
next_sound count (Doubling side cutoff) true h allowed = doubled_sound count cutoff side (doubling_facts count side cutoff h)
    (doubling_bounded count side cutoff h) allowed
next_sound count (Doubling side cutoff) false h allowed = settled_sound count cutoff side (doubling_facts count side cutoff h)
    (doubling_bounded count side cutoff h)
next_sound count (Halving side cutoff range) decision h allowed =
    halved_by count cutoff range side decision ((range / 2) == 1) refl (halving_facts count side cutoff range h) (halving_bounded count side cutoff range h)
next_sound count (Known value) decision h allowed = absurd (cc)

pub doubling_some : (count : ℕ) (side : Side) (cutoff : ℕ) → IsTrue (is_sound count (Doubling side cutoff)) → 1 ≤ cutoff
doubling_some count side cutoff h =
    let facts = doubling_facts count side cutoff h in
    let large : 2 ^ 1 ≤ 2 ^ count = pow_mono facts.some in
    omega (arith, facts.power, large)

pub doubling_below : (count : ℕ) (side : Side) (cutoff : ℕ) → IsTrue (is_sound count (Doubling side cutoff)) → cutoff < 524288
doubling_below count side cutoff h =
    let facts = doubling_facts count side cutoff h in
    let small : 2 ^ count ≤ 262144 = power_below count facts.few in
    omega (arith, facts.power, small)

pub next_sound_at : (count : ℕ) (phase at : Phase) (decision : Bool) (next : Phase) → IsTrue (is_sound count phase) → IsTrue (allows phase decision) →
    phase ≡ at → next ≡ next_phase at decision →
    IsTrue (is_sound (count + 1) next)
next_sound_at count phase at decision next sound allowed same is =
    subst (λ (q : Phase). IsTrue (is_sound (count + 1) q)) (ap (λ (q : Phase). next_phase q decision) same ∙ sym is)
    (next_sound count phase decision sound allowed)

at_least_higher : (low high : ℤ) (cutoff : ℕ) → IsTrue (int_le low high) → at_least low cutoff ≡ true → at_least high cutoff ≡ true
at_least_higher (pos m) (pos n) cutoff order reached = grind (arith, common_steps)
at_least_higher (pos m) (negsuc n) cutoff order reached = absurd (cc)
at_least_higher (negsuc m) high cutoff order reached = absurd (cc)

bounded_order : (low high : ℤ) → IsTrue (is_bounded low high) → IsTrue (int_le low high)
bounded_order low high h = grind (arith, common_steps)

implied_true : (low high : ℤ) (cutoff : ℕ) → at_least low cutoff ≡ true → implied_by low high cutoff ≡ Some true
implied_true low high cutoff la = rw la refl

implied_false : (low high : ℤ) (cutoff : ℕ) → at_least low cutoff ≡ false → at_least high cutoff ≡ false → implied_by low high cutoff ≡ Some false
implied_false low high cutoff la hb = rw (la, hb) refl

sign_order : (count : ℕ) (low high : ℤ) → IsTrue (is_sound count (Sign low high)) → IsTrue (int_le low high)
sign_order count low high sound = grind (arith, common_steps)

sign_few : (count : ℕ) (low high : ℤ) → IsTrue (is_sound count (Sign low high)) → count < 36
sign_few count low high sound = grind (arith, common_steps)

allowed_by : (low high : ℤ) (cutoff : ℕ) (decision a b : Bool) → at_least low cutoff ≡ a → at_least high cutoff ≡ b → IsTrue (int_le low high) →
    implied_by low high cutoff ≡ Some decision → IsTrue (allows_by low high cutoff decision)
allowed_by low high cutoff true true b la hb order implied = at_least_higher low high cutoff order la
allowed_by low high cutoff false true b la hb order implied = absurd (cc (implied_true low high cutoff la, implied))
allowed_by low high cutoff true false true la hb order implied = hb
allowed_by low high cutoff true false false la hb order implied = absurd (cc (implied_false low high cutoff la hb, implied))
allowed_by low high cutoff false false b la hb order implied = rw la refl

coded_by : (low high : ℤ) (cutoff : ℕ) (decision a b : Bool) → at_least low cutoff ≡ a → at_least high cutoff ≡ b → implied_by low high cutoff ≡ None →
    IsTrue (allows_by low high cutoff decision)
coded_by low high cutoff decision true b la hb coded = absurd (cc (implied_true low high cutoff la, coded))
coded_by low high cutoff decision false false la hb coded = absurd (cc (implied_false low high cutoff la hb, coded))
coded_by low high cutoff true false true la hb coded = hb
coded_by low high cutoff false false true la hb coded = rw la refl

pub allowed_implied : (count : ℕ) (phase : Phase) (decision : Bool) → IsTrue (is_sound count phase) → implied phase ≡ Some decision →
    IsTrue (allows phase decision)
allowed_implied count (Sign low high) decision sound given =
    allowed_by low high 0 decision (at_least low 0) (at_least high 0) refl refl (sign_order count low high sound) given
allowed_implied count (Doubling side cutoff) decision sound given =
    allowed_by side.low side.high cutoff decision (at_least side.low cutoff) (at_least side.high cutoff) refl refl
    (bounded_order side.low side.high (doubling_bounded count side cutoff sound)) given
allowed_implied count (Halving side cutoff range) decision sound given =
    allowed_by side.low side.high cutoff decision (at_least side.low cutoff) (at_least side.high cutoff) refl refl
    (bounded_order side.low side.high (halving_bounded count side cutoff range sound)) given
allowed_implied count (Known value) decision sound given = absurd (cc)

pub allowed_coded : (phase : Phase) (decision : Bool) → is_known phase ≡ false → implied phase ≡ None → IsTrue (allows phase decision)
allowed_coded (Sign low high) decision unknown given = coded_by low high 0 decision (at_least low 0) (at_least high 0) refl refl given
allowed_coded (Doubling side cutoff) decision unknown given = coded_by side.low side.high cutoff decision (at_least side.low cutoff)
    (at_least side.high cutoff) refl refl given
allowed_coded (Halving side cutoff range) decision unknown given = coded_by side.low side.high cutoff decision (at_least side.low cutoff)
    (at_least side.high cutoff) refl refl given
allowed_coded (Known value) decision unknown given = absurd (cc)

-- where a decision is allowed, fewer than 36 came before
pub few_before : (count : ℕ) (phase : Phase) (decision : Bool) → IsTrue (is_sound count phase) → IsTrue (allows phase decision) → count < 36
few_before count (Sign low high) decision sound allowed = sign_few count low high sound
few_before count (Doubling side cutoff) decision sound allowed = let facts = doubling_facts count side cutoff sound in omega (arith, facts.few)
few_before count (Halving side cutoff range) decision sound allowed = let facts =
    halving_facts count side cutoff range sound in few_decisions count range facts.some facts.few
few_before count (Known value) decision sound allowed = absurd (cc)

pub sound_part : (path : Path) (phase : Phase) → IsSound path phase → IsTrue (is_sound path.count phase)
sound_part path phase sound = grind (arith, common_steps)

pub bits_within : (path : Path) (phase : Phase) → IsSound path phase → path.bits < 2 ^ path.count
bits_within path phase sound = grind (arith, common_steps)

pub sound_join : (path : Path) (phase : Phase) → IsTrue (is_sound path.count phase) → path.bits < 2 ^ path.count → IsSound path phase
sound_join path phase sound within = grind (arith, common_steps)

-- where a decision is allowed in the phase of a path, it is a short one
pub few_taken : (path : Path) (phase : Phase) (decision : Bool) → IsSound path phase → IsTrue (allows phase decision) → path.count < 36
few_taken path phase decision sound allowed = few_before path.count phase decision (sound_part path phase sound) allowed

pub halving_few : (count : ℕ) (side : Side) (cutoff range : ℕ) → IsTrue (is_sound count (Halving side cutoff range)) → count ≤ 36
halving_few count side cutoff range sound =
    let facts = halving_facts count side cutoff range sound in
    let few = few_decisions count range facts.some facts.few in
    omega (arith, few)

pub few_sound : (count : ℕ) (phase : Phase) → IsTrue (is_sound count phase) → count ≤ 36
few_sound count (Sign low high) sound = grind (arith, common_steps)
few_sound count (Doubling side cutoff) sound = grind (arith, common_steps)
few_sound count (Halving side cutoff range) sound = halving_few count side cutoff range sound
few_sound count (Known value) sound = grind (arith, common_steps)

-- a reader has read few decisions
pub few_reader : (path : Path) (phase : Phase) (decisions : List Bool) → decisions_in path ≡ decisions → IsSound path phase → length decisions ≤ 36
few_reader path phase decisions same sound =
    subst (λ (ds : List Bool). length ds ≤ 36) same (subst (λ (n : ℕ). n ≤ 36) (sym (how_many path.count path.bits))
    (few_sound path.count phase (sound_part path phase sound)))

pub fewer_reader : (path : Path) (phase : Phase) (decision : Bool) (decisions : List Bool) → decisions_in path ≡ decisions → IsSound path phase →
    IsTrue (allows phase decision) → length decisions < 36
fewer_reader path phase decision decisions same sound allowed =
    subst (λ (ds : List Bool). length ds < 36) same (subst (λ (n : ℕ). n < 36) (sym (how_many path.count path.bits))
    (few_taken path phase decision sound allowed))
