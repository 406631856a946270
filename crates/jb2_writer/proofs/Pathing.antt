-- The decisions of a number, one after the other.
use Rattle.std.proofs.Common.{◌≡◌, ◌<◌, ◌≤◌, ◌+◌, ◌-◌, ◌*◌, ◌^◌, ℕ, zero, suc, ℤ, Bool}
use Rattle.std.proofs.Common.{true, false, not, List, [], ◌∷◌, add-one, refl, sym, ap, subst, ◌∙◌, arith}
use Rattle.std.proofs.Math.Nat.{pow-suc}
use Rattle.std.proofs.Math.Pow.{pow_mono}
use Rattle.std.specs.Prelude.{Option, Some, None, is_some, nat_le}
use Rattle.jb2_numbers.specs.Contexts.{Name, name}
use Rattle.jb2_numbers.specs.Number.{Wanted, wanted, phase_after, with_decided, first_decisions, decisions_of, most_decisions}
use Rattle.jb2_numbers.specs.Phases.{Side, Phase, Sign, Doubling, Halving, Known, implied, implied_by, is_known, size_of, at_least, next_phase}
use Rattle.jb2_writer.specs.declared.numbers.Phase.{Phase as Kept}
use Rattle.jb2_writer.specs.declared.numbers.Phase.TheVariants as kept
use Rattle.jb2_numbers.specs.declared.roots.Root.{Root}
use Rattle.bit_plane.specs.Bits.{digit_of}
use Rattle.jb2_writer.specs.declared.coding.Coding.{Coding}
use Rattle.jb2_writer.specs.Coded.{Coded, coded_where, coded_of}
use Rattle.jb2_writer.specs.Coding.{Adds, path_number}
use Rattle.jb2_writer.proofs.Adding.{adds_join}
use Rattle.jb2_writer.specs.Numbers.{Keeps, Fits, cutoff_of, coded_if, side_for, HasDecided}

-- ---- a number that is known has no decision more

none_more : (value : ℤ) (decisions : List Bool) (at : Phase) → is_known at ≡ true → with_decided value decisions at ≡ decisions
none_more value decisions (Sign low high) e = absurd (cc)
none_more value decisions (Doubling side cutoff) e = absurd (cc)
none_more value decisions (Halving side cutoff range) e = absurd (cc)
none_more value decisions (Known known) e = refl

stays : (number : Wanted) (value : ℤ) (more count : ℕ) → is_known (phase_after number (first_decisions count number value)) ≡ true →
    first_decisions (more + count) number value ≡ first_decisions count number value
stays number value zero count known =
    let same : 0 + count ≡ count = omega arith in
    ap (λ (n : ℕ). first_decisions n number value) same
stays number value (suc more) count known =
    let rest = stays number value more count known in
    let next : suc more + count ≡ suc (more + count) = omega arith in
    ap (λ (n : ℕ). first_decisions n number value) next
    ∙ (ap (λ (decisions : List Bool). with_decided value decisions (phase_after number decisions)) rest
    ∙ none_more value (first_decisions count number value) (phase_after number (first_decisions count number value)) known)

-- so these were all
pub all_of : (number : Wanted) (value : ℤ) (count : ℕ) → count ≤ 36 → is_known (phase_after number (first_decisions count number value)) ≡ true →
    first_decisions count number value ≡ decisions_of number value
unfolding most_decisions
all_of number value count few known =
    let all : 36 - count + count ≡ 36 = omega (arith, few) in
    sym (stays number value (36 - count) count known) ∙ ap (λ (n : ℕ). first_decisions n number value) all

pub all_of_36 : (number : Wanted) (value : ℤ) (count : ℕ) → count ≡ 36 → first_decisions count number value ≡ decisions_of number value
unfolding most_decisions
all_of_36 number value count e = ap (λ (n : ℕ). first_decisions n number value) e

-- ---- one decision more

pub one_more : (number : Wanted) (value : ℤ) (side : Side) (at : Kept) (cutoff count : ℕ) →
    Keeps side at (phase_after number (first_decisions count number value)) →
    cutoff_of at ≡ Some cutoff →
    first_decisions (suc count) number value ≡ nat_le cutoff (size_of value) ∷ first_decisions count number value
one_more number value side (kept.Doubling c) cutoff count keeps e =
    let same : c ≡ cutoff = cc in
    ap (λ (phase : Phase). with_decided value (first_decisions count number value) phase) keeps
    ∙ ap (λ (k : ℕ). nat_le k (size_of value) ∷ first_decisions count number value) same
one_more number value side (kept.Halving c range) cutoff count keeps e =
    let same : c ≡ cutoff = cc in
    ap (λ (phase : Phase). with_decided value (first_decisions count number value) phase) keeps
    ∙ ap (λ (k : ℕ). nat_le k (size_of value) ∷ first_decisions count number value) same
one_more number value side kept.Known cutoff count keeps e = absurd (cc)

pub implied_there : (side : Side) (at : Kept) (phase : Phase) (cutoff : ℕ) → Keeps side at phase → cutoff_of at ≡ Some cutoff →
    implied phase ≡ implied_by side.low side.high cutoff
implied_there side (kept.Doubling c) phase cutoff keeps e =
    let same : c ≡ cutoff = cc in
    ap implied keeps ∙ ap (implied_by side.low side.high) same
implied_there side (kept.Halving c range) phase cutoff keeps e =
    let same : c ≡ cutoff = cc in
    ap implied keeps ∙ ap (implied_by side.low side.high) same
implied_there side kept.Known phase cutoff keeps e = absurd (cc)

pub none_known : (side : Side) (at : Kept) (phase : Phase) → Keeps side at phase → cutoff_of at ≡ None → is_known phase ≡ true
none_known side (kept.Doubling c) phase keeps e = absurd (cc)
none_known side (kept.Halving c range) phase keeps e = absurd (cc)
none_known side kept.Known phase keeps e = keeps

pub coded_so : (given : Option Bool) (at : Name) (bit : Bool) → coded_if (not (is_some given)) at bit ≡ coded_where given at bit
coded_so None at bit = refl
coded_so (Some given) at bit = refl

-- ---- a path takes a digit for each decision

pub path_grows : (path count : ℕ) (digit : ℕ) → path < 2 ^ count → digit ≤ 1 → 2 * path + digit < 2 ^ (count + 1)
path_grows path count digit below one =
    let power : 2 ^ (count + 1) ≡ 2 ^ count * 2 = rw add-one (pow-suc 2 count) in
    omega (arith, below, one, power)

digit_few : (bit : Bool) → digit_of bit ≤ 1
digit_few true = omega arith
digit_few false = omega arith

-- ---- the decisions of a value, one after the other

coded_there : (given : Option Bool) (is_open : Bool) (at : Name) (bit : Bool) (old new : Coding) → is_open ≡ not (is_some given) →
    Adds (coded_if is_open at bit) old new →
    Adds (coded_where given at bit) old new
coded_there given is_open at bit old new e adds =
    subst (λ (bits : List Coded). Adds bits old new) (ap (λ (o : Bool). coded_if o at bit) e ∙ coded_so given at bit) adds

pub first_decided : (number : Wanted) (value : ℤ) (is_open sign : Bool) (path : ℕ) (old new : Coding) →
    is_open ≡ not (is_some (implied_by number.low number.high 0)) →
    Adds (coded_if is_open (name number.root []) sign) old new → sign ≡ at_least value 0 → path ≡ 2 * 1 + digit_of sign →
    HasDecided number value 1 path (kept.Doubling 1) old new
first_decided number value is_open sign path old new e adds s d =
    let few = digit_few sign in
    let there = coded_there (implied_by number.low number.high 0) is_open (name number.root []) sign old new e adds in
    record {
      adds = subst (λ (bit : Bool). Adds (coded_where (implied_by number.low number.high 0) (name number.root []) bit) old new) s there;
      digits = ap (λ (bit : Bool). 2 * 1 + digit_of bit) (sym s) ∙ sym d;
      below = omega (arith, few, d);
      keeps = refl;
      fits = (omega arith, omega arith);
    }

pub next_decided : (number : Wanted) (value : ℤ) (count path cutoff next_path next_count : ℕ) (bit is_open : Bool) (at next : Kept) (old middle new : Coding) →
    HasDecided number value count path at old middle → cutoff_of at ≡ Some cutoff → bit ≡ nat_le cutoff (size_of value) →
    is_open ≡ not (is_some (implied_by (side_for number value).low (side_for number value).high cutoff)) →
    Adds (coded_if is_open (name number.root (first_decisions count number value)) bit) middle new → next_path ≡ 2 * path + digit_of bit →
    ((side : Side) (phase : Phase) → Keeps side at phase → Keeps side next (next_phase phase bit)) → Fits next → next_count ≡ count + 1 →
    HasDecided number value next_count next_path next old new
next_decided number value count path cutoff next_path next_count bit is_open at next old middle new has c b o adds d keeps fits n =
    let few = digit_few bit in
    let earlier : List Bool = first_decisions count number value in
    let same : first_decisions (suc count) number value ≡ bit ∷ earlier =
    one_more number value (side_for number value) at cutoff count has.keeps c ∙ ap (λ (first : Bool). first ∷ earlier) (sym b) in
    let later : next_count ≡ suc count = omega (arith, n) in
    let all : first_decisions next_count number value ≡ bit ∷ earlier = ap (λ (k : ℕ). first_decisions k number value) later ∙ same in
    let implied_so = implied_there (side_for number value) at (phase_after number earlier) cutoff has.keeps c in
    let one = coded_there (implied (phase_after number earlier)) is_open (name number.root earlier) bit middle new
    (o ∙ ap (λ (given : Option Bool). not (is_some given)) (sym implied_so)) adds in
    let grown = path_grows path (count + 1) (digit_of bit) has.below few in
    let places : 2 ^ (count + 1 + 1) ≡ 2 ^ (next_count + 1) = ap (λ (k : ℕ). 2 ^ (k + 1)) (sym n) in
    record {
      adds = subst (λ (decisions : List Bool). Adds (coded_of number decisions) old new) (sym all)
          (adds_join (coded_of number earlier) (coded_where (implied (phase_after number earlier)) (name number.root earlier) bit) old middle new has.adds one);
      digits = ap path_number all ∙ (ap (λ (p : ℕ). 2 * p + digit_of bit) has.digits ∙ sym d);
      below = omega (arith, grown, places, d);
      keeps = subst (λ (decisions : List Bool). Keeps (side_for number value) next (phase_after number decisions)) (sym all)
          (keeps (side_for number value) (phase_after number earlier) has.keeps);
      fits = fits;
    }

pub none_left : (number : Wanted) (value : ℤ) (count path : ℕ) (at : Kept) (old new : Coding) → HasDecided number value count path at old new →
    cutoff_of at ≡ None → count ≤ 36 → Adds (coded_of number (decisions_of number value)) old new
none_left number value count path at old new has none few =
    subst (λ (decisions : List Bool). Adds (coded_of number decisions) old new)
    (all_of number value count few (none_known (side_for number value) at (phase_after number (first_decisions count number value)) has.keeps none)) has.adds

pub all_decided : (number : Wanted) (value : ℤ) (count path : ℕ) (at : Kept) (old new : Coding) → HasDecided number value count path at old new → count ≡ 36 →
    Adds (coded_of number (decisions_of number value)) old new
all_decided number value count path at old new has all =
    subst (λ (decisions : List Bool). Adds (coded_of number decisions) old new) (all_of_36 number value count all) has.adds

-- the same number, written in two ways
pub same_number : (root : Root) (a b c x y z : ℤ) (count path : ℕ) (at : Kept) (old new : Coding) → a ≡ x → b ≡ y → c ≡ z →
    HasDecided (wanted root a b) c count path at old new → HasDecided (wanted root x y) z count path at old new
same_number root a b c x y z count path at old new e f g has =
    subst (λ (low : ℤ). HasDecided (wanted root low y) z count path at old new) e
    (subst (λ (high : ℤ). HasDecided (wanted root a high) z count path at old new) f
    (subst (λ (value : ℤ). HasDecided (wanted root a b) value count path at old new) g has))

pub has_room : (path count : ℕ) → path < 2 ^ (count + 1) → count < 36 → path < 2 ^ 37
has_room path count below few =
    let places : count + 1 ≤ 37 = omega (arith, few) in
    let most : 2 ^ (count + 1) ≤ 2 ^ 37 = pow_mono places in
    omega (arith, below, most)

pub open_there : (is_open : Bool) (a b x y : ℤ) (cutoff : ℕ) → is_open ≡ not (is_some (implied_by a b cutoff)) → a ≡ x → b ≡ y →
    is_open ≡ not (is_some (implied_by x y cutoff))
open_there is_open a b x y cutoff o e f =
    o ∙ (ap (λ (k : ℤ). not (is_some (implied_by k b cutoff))) e ∙ ap (λ (k : ℤ). not (is_some (implied_by x k cutoff))) f)
