-- The values that a phase leaves, and what a decision leaves of them: those whose own decision it is.
use Rattle.std.proofs.Common.{◌≡◌, ◌≤◌, ◌<◌, ◌+◌, ◌-◌, ◌*◌, ◌/◌, ◌^◌, ◌==◌, ℕ, zero, suc, ℤ, pos, negsuc, Bool, true, false, refl, sym, ap, subst, ◌∙◌, arith}
use Rattle.std.specs.Prelude.{nat_le, IsTrue, if◌then◌else◌}
use Rattle.std.proofs.lemmas.Grind.{common_steps}
use Rattle.std.proofs.lemmas.Nat.{pow_pos}
use Rattle.std.proofs.Math.Nat.{pow-suc}
use Rattle.jb2_numbers.specs.Phases.{Side, Phase, Sign, Doubling, Halving, Known, at_least, side_of, number_of, halved, settled, next_phase, is_known, allows, size_of, decided}
use Rattle.jb2_numbers.specs.Number.{Wanted}
use Rattle.jb2_numbers.proofs.Bounds.{Keeps, Doubles, Halves, not_one}

pub record Between (value : ℤ) (side : Side) (least beyond : ℕ) : Type 0 where
  pub is : number_of side (size_of value) ≡ value
  pub from : least ≤ size_of value
  pub below : size_of value < beyond

pub record AtLeast (value : ℤ) (side : Side) (least : ℕ) : Type 0 where
  pub is : number_of side (size_of value) ≡ value
  pub from : least ≤ size_of value

abbrev pub Covers : ℤ → Phase → Type 0
Covers value (Sign low high) = Unit {0}
Covers value (Doubling side cutoff) = AtLeast value side (cutoff / 2)
Covers value (Halving side cutoff range) = Between value side (cutoff - range / 2) (cutoff + range / 2)
Covers value (Known known) = known ≡ value

pub reached : (a b : ℕ) → nat_le a b ≡ true → a ≤ b
reached a b e = grind (arith, common_steps)

pub missed : (a b : ℕ) → nat_le a b ≡ false → b < a
missed a b e = grind (arith, common_steps)

is_reached : (a b : ℕ) → a ≤ b → nat_le a b ≡ true
is_reached a b h = grind (arith, common_steps)

is_missed : (a b : ℕ) → b < a → nat_le a b ≡ false
is_missed a b h = grind (arith, common_steps)

size_by : (negative : Bool) (n : ℕ) → size_of (if negative then negsuc n else pos n) ≡ n
size_by true n = refl
size_by false n = refl

size_is : (side : Side) (n : ℕ) → size_of (number_of side n) ≡ n
size_is side n = size_by side.negative n

-- a known number of a side, by its size
number_at : (value : ℤ) (side : Side) (n : ℕ) → size_of value ≡ n → number_of side (size_of value) ≡ value → number_of side n ≡ value
number_at value side n e is = ap (number_of side) (sym e) ∙ is

size_at : (value : ℤ) (side : Side) (n : ℕ) → number_of side n ≡ value → size_of value ≡ n
size_at value side n known = ap size_of (sym known) ∙ size_is side n

side_at : (value : ℤ) (side : Side) (n : ℕ) → number_of side n ≡ value → number_of side (size_of value) ≡ value
side_at value side n known = ap (number_of side) (size_at value side n known) ∙ known

-- ---- a decision further

sign_on : (low high value : ℤ) (decision : Bool) → at_least value 0 ≡ decision → AtLeast value (side_of low high decision) (1 / 2)
sign_on low high (pos n) true e = record { is = refl; from = omega arith }
sign_on low high (pos n) false e = let low : n < 0 = missed 0 n e in absurd (omega (arith, low))
sign_on low high (negsuc n) true e = absurd (cc)
sign_on low high (negsuc n) false e = record { is = refl; from = omega arith }

settled_on : (value : ℤ) (side : Side) (cutoff range exponent : ℕ) → range ≡ 2 ^ exponent → cutoff + 1 ≡ 2 * range → AtLeast value side (cutoff / 2) →
    size_of value < cutoff →
    Covers value (settled side cutoff range)
settled_on value side cutoff range zero power twice covers low =
    let one : range ≡ 1 = power in
    let least : size_of value ≡ 0 = omega (arith, one, twice, low) in
    subst (λ (r : ℕ). Covers value (settled side cutoff r)) (sym one) (number_at value side 0 least covers.is)
settled_on value side cutoff range (suc exponent) power twice covers low =
    let double : range ≡ 2 ^ exponent * 2 = power ∙ pow-suc 2 exponent in
    let some : 0 < 2 ^ exponent = pow_pos exponent in
    let more : (range == 1) ≡ false = not_one range (2 ^ exponent) double some in
    let from : cutoff / 2 ≤ size_of value = covers.from in
    rw more (record {
      is = covers.is;
      from = omega (arith, double, twice, from);
      below = omega (arith, double, twice, low);
    })

half_on : (value : ℤ) (side : Side) (cutoff half exponent : ℕ) (decision : Bool) → half ≡ 2 ^ exponent → half ≤ cutoff →
    Between value side (cutoff - half) (cutoff + half) → nat_le cutoff (size_of value) ≡ decision →
    Covers value (halved side cutoff half decision)
half_on value side cutoff half zero true power room covers e =
    let one : half ≡ 1 = power in
    let from : cutoff ≤ size_of value = reached cutoff (size_of value) e in
    let below : size_of value < cutoff + half = covers.below in
    subst (λ (r : ℕ). Covers value (halved side cutoff r true)) (sym one) (number_at value side cutoff (omega (arith, one, from, below)) covers.is)
half_on value side cutoff half zero false power room covers e =
    let one : half ≡ 1 = power in
    let low : size_of value < cutoff = missed cutoff (size_of value) e in
    let from : cutoff - half ≤ size_of value = covers.from in
    subst (λ (r : ℕ). Covers value (halved side cutoff r false)) (sym one) (number_at value side (cutoff - 1) (omega (arith, one, from, low)) covers.is)
half_on value side cutoff half (suc exponent) true power room covers e =
    let double : half ≡ 2 ^ exponent * 2 = power ∙ pow-suc 2 exponent in
    let more : (half == 1) ≡ false = not_one half (2 ^ exponent) double (pow_pos exponent) in
    let from : cutoff ≤ size_of value = reached cutoff (size_of value) e in
    let below : size_of value < cutoff + half = covers.below in
    rw more (record { is = covers.is; from = omega (arith, from); below = omega (arith, double, below) })
half_on value side cutoff half (suc exponent) false power room covers e =
    let double : half ≡ 2 ^ exponent * 2 = power ∙ pow-suc 2 exponent in
    let more : (half == 1) ≡ false = not_one half (2 ^ exponent) double (pow_pos exponent) in
    let low : size_of value < cutoff = missed cutoff (size_of value) e in
    let from : cutoff - half ≤ size_of value = covers.from in
    rw more (record { is = covers.is; from = omega (arith, double, room, from); below = omega (arith, double, room, low) })

doubling_on : (wanted : Wanted) (value : ℤ) (side : Side) (cutoff : ℕ) (decision : Bool) → Doubles wanted side cutoff → AtLeast value side (cutoff / 2) →
    nat_le cutoff (size_of value) ≡ decision →
    Covers value (next_phase (Doubling side cutoff) decision)
doubling_on wanted value side cutoff true doubles covers e =
    let from : cutoff ≤ size_of value = reached cutoff (size_of value) e in
    record { is = covers.is; from = omega (arith, from) }
doubling_on wanted value side cutoff false doubles covers e =
    let power : cutoff + 1 ≡ 2 ^ doubles.exponent * 2 = doubles.power ∙ pow-suc 2 doubles.exponent in
    settled_on value side cutoff ((cutoff + 1) / 2) doubles.exponent (omega (arith, power)) (omega (arith, power)) covers (missed cutoff (size_of value) e)

halving_on : (wanted : Wanted) (value : ℤ) (side : Side) (cutoff range : ℕ) (decision : Bool) → Halves wanted side cutoff range →
    Between value side (cutoff - range / 2) (cutoff + range / 2) →
    nat_le cutoff (size_of value) ≡ decision → Covers value (halved side cutoff (range / 2) decision)
halving_on wanted value side cutoff range decision halves covers e =
    let power : range ≡ 2 ^ halves.exponent * 2 = halves.power ∙ pow-suc 2 halves.exponent in
    let room : range ≤ cutoff = halves.room in
    half_on value side cutoff (range / 2) halves.exponent decision (omega (arith, power)) (omega (arith, room)) covers e

pub covers_on : (wanted : Wanted) (value : ℤ) (phase : Phase) (decision : Bool) → Keeps wanted phase → is_known phase ≡ false → Covers value phase →
    decided value phase ≡ decision →
    Covers value (next_phase phase decision)
covers_on wanted value (Sign low high) decision keeps unknown covers e = sign_on low high value decision e
covers_on wanted value (Doubling side cutoff) decision keeps unknown covers e = doubling_on wanted value side cutoff decision keeps covers e
covers_on wanted value (Halving side cutoff range) decision keeps unknown covers e = halving_on wanted value side cutoff range decision keeps covers e
covers_on wanted value (Known known) decision keeps unknown covers e = absurd (cc)

-- ---- and back

-- a value was left before, and the decision is its own
pub record Earlier (value : ℤ) (phase : Phase) (decision : Bool) : Type 0 where
  pub covers : Covers value phase
  pub own : decided value phase ≡ decision

sign_back : (low high value : ℤ) (decision : Bool) → number_of (side_of low high decision) (size_of value) ≡ value → at_least value 0 ≡ decision
sign_back low high (pos n) true e = is_reached 0 n (omega arith)
sign_back low high (pos n) false e = absurd (cc)
sign_back low high (negsuc n) true e = absurd (cc)
sign_back low high (negsuc n) false e = refl

settled_back : (value : ℤ) (side : Side) (cutoff range exponent : ℕ) → range ≡ 2 ^ exponent → cutoff + 1 ≡ 2 * range →
    Covers value (settled side cutoff range) → Earlier value (Doubling side cutoff) false
settled_back value side cutoff range zero power twice covers =
    let one : range ≡ 1 = power in
    let known : number_of side 0 ≡ value = subst (λ (r : ℕ). Covers value (settled side cutoff r)) one covers in
    let size : size_of value ≡ 0 = size_at value side 0 known in
    record {
      covers = record { is = side_at value side 0 known; from = omega (arith, one, twice) };
      own = is_missed cutoff (size_of value) (omega (arith, one, twice, size));
    }
settled_back value side cutoff range (suc exponent) power twice covers =
    let double : range ≡ 2 ^ exponent * 2 = power ∙ pow-suc 2 exponent in
    let more : (range == 1) ≡ false = not_one range (2 ^ exponent) double (pow_pos exponent) in
    let there : Between value side (cutoff - range / 2 - range / 2) (cutoff - range / 2 + range / 2) =
    subst (λ (b : Bool). Covers value (if b then Known (number_of side 0) else Halving side (cutoff - range / 2) range)) more covers in
    let from : cutoff - range / 2 - range / 2 ≤ size_of value = there.from in
    let below : size_of value < cutoff - range / 2 + range / 2 = there.below in
    record {
      covers = record { is = there.is; from = omega (arith, double, twice, from) };
      own = is_missed cutoff (size_of value) (omega (arith, double, twice, below));
    }

-- the same in the third phase, with the half of the range
record Halfway (value : ℤ) (side : Side) (cutoff half : ℕ) (decision : Bool) : Type 0 where
  covers : Between value side (cutoff - half) (cutoff + half)
  own : nat_le cutoff (size_of value) ≡ decision

half_back : (value : ℤ) (side : Side) (cutoff half exponent : ℕ) (decision : Bool) → half ≡ 2 ^ exponent → half ≤ cutoff →
    Covers value (halved side cutoff half decision) → Halfway value side cutoff half decision
half_back value side cutoff half zero true power room covers =
    let one : half ≡ 1 = power in
    let known : number_of side cutoff ≡ value = subst (λ (r : ℕ). Covers value (halved side cutoff r true)) one covers in
    let size : size_of value ≡ cutoff = size_at value side cutoff known in
    record {
      covers = record { is = side_at value side cutoff known; from = omega (arith, size); below = omega (arith, size, one) };
      own = is_reached cutoff (size_of value) (omega (arith, size));
    }
half_back value side cutoff half zero false power room covers =
    let one : half ≡ 1 = power in
    let known : number_of side (cutoff - 1) ≡ value = subst (λ (r : ℕ). Covers value (halved side cutoff r false)) one covers in
    let size : size_of value ≡ cutoff - 1 = size_at value side (cutoff - 1) known in
    record {
      covers = record { is = side_at value side (cutoff - 1) known; from = omega (arith, size, one); below = omega (arith, size, one, room) };
      own = is_missed cutoff (size_of value) (omega (arith, size, one, room));
    }
half_back value side cutoff half (suc exponent) true power room covers =
    let double : half ≡ 2 ^ exponent * 2 = power ∙ pow-suc 2 exponent in
    let more : (half == 1) ≡ false = not_one half (2 ^ exponent) double (pow_pos exponent) in
    let there : Between value side (cutoff + half / 2 - half / 2) (cutoff + half / 2 + half / 2) =
    subst (λ (b : Bool). Covers value (if b then Known (number_of side cutoff) else Halving side (cutoff + half / 2) half)) more covers in
    let from : cutoff + half / 2 - half / 2 ≤ size_of value = there.from in
    let below : size_of value < cutoff + half / 2 + half / 2 = there.below in
    record {
      covers = record { is = there.is; from = omega (arith, from); below = omega (arith, double, below) };
      own = is_reached cutoff (size_of value) (omega (arith, from));
    }
half_back value side cutoff half (suc exponent) false power room covers =
    let double : half ≡ 2 ^ exponent * 2 = power ∙ pow-suc 2 exponent in
    let more : (half == 1) ≡ false = not_one half (2 ^ exponent) double (pow_pos exponent) in
    let there : Between value side (cutoff - half / 2 - half / 2) (cutoff - half / 2 + half / 2) =
    subst (λ (b : Bool). Covers value (if b then Known (number_of side (cutoff - 1)) else Halving side (cutoff - half / 2) half)) more covers in
    let from : cutoff - half / 2 - half / 2 ≤ size_of value = there.from in
    let below : size_of value < cutoff - half / 2 + half / 2 = there.below in
    record {
      covers = record { is = there.is; from = omega (arith, double, from); below = omega (arith, double, room, below) };
      own = is_missed cutoff (size_of value) (omega (arith, double, room, below));
    }

doubling_back : (wanted : Wanted) (value : ℤ) (side : Side) (cutoff : ℕ) (decision : Bool) → Doubles wanted side cutoff →
    Covers value (next_phase (Doubling side cutoff) decision) →
    Earlier value (Doubling side cutoff) decision
doubling_back wanted value side cutoff true doubles covers =
    let from : (2 * cutoff + 1) / 2 ≤ size_of value = covers.from in
    record {
      covers = record { is = covers.is; from = omega (arith, from) };
      own = is_reached cutoff (size_of value) (omega (arith, from));
    }
doubling_back wanted value side cutoff false doubles covers =
    let power : cutoff + 1 ≡ 2 ^ doubles.exponent * 2 = doubles.power ∙ pow-suc 2 doubles.exponent in
    settled_back value side cutoff ((cutoff + 1) / 2) doubles.exponent (omega (arith, power)) (omega (arith, power)) covers

halving_back : (wanted : Wanted) (value : ℤ) (side : Side) (cutoff range : ℕ) (decision : Bool) → Halves wanted side cutoff range →
    Covers value (halved side cutoff (range / 2) decision) →
    Earlier value (Halving side cutoff range) decision
halving_back wanted value side cutoff range decision halves covers =
    let power : range ≡ 2 ^ halves.exponent * 2 = halves.power ∙ pow-suc 2 halves.exponent in
    let room : range ≤ cutoff = halves.room in
    let there = half_back value side cutoff (range / 2) halves.exponent decision (omega (arith, power)) (omega (arith, room)) covers in
    record { covers = there.covers; own = there.own }

pub covers_back : (wanted : Wanted) (value : ℤ) (phase : Phase) (decision : Bool) → Keeps wanted phase → IsTrue (allows phase decision) →
    Covers value (next_phase phase decision) → Earlier value phase decision
covers_back wanted value (Sign low high) decision keeps allowed covers = record { covers = tt; own = sign_back low high value decision covers.is }
covers_back wanted value (Doubling side cutoff) decision keeps allowed covers = doubling_back wanted value side cutoff decision keeps covers
covers_back wanted value (Halving side cutoff range) decision keeps allowed covers = halving_back wanted value side cutoff range decision keeps covers
covers_back wanted value (Known known) decision keeps allowed covers = absurd (cc)
