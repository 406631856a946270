-- Numbers of contexts: no two have the same, and what a written state means.
use Rattle.std.proofs.Common.{◌≡◌, ℕ, ◌+◌, ◌*◌, ◌<◌, Bool, true, false, ◌&&◌, length, get_or, set, replicate, refl, ap, sym, ◌∙◌, subst, arith}
use Rattle.std.proofs.Common.{inl, inr, eqb-true, eq-eqb}
use Rattle.std.specs.Prelude.{◌==◌, nat_lt, if◌then◌else◌}
use Rattle.std.proofs.Math.Path.{fun_ext}
use Rattle.std.proofs.lemmas.Bool.{cases_Bool, cases_lt}
use Rattle.std.proofs.lemmas.Bool.Decides.{nat_tests}
use Rattle.std.proofs.lemmas.List.{get_or-set_same, get_or-set_other, get_or-replicate, get_or_past, length-replicate}
use Rattle.zp_decoder.specs.Decision.{Adaptive}
use Rattle.zp_decoder.specs.States.{fresh, AreBelow}
use Rattle.zp_decoder.proofs.Lemmas.{stored_here, stored_elsewhere, stored_below}
use Rattle.iw44_slices.specs.Contexts.{Context, Root, Bucket, Start, Mantissa, is_same}
use Rattle.iw44_slices.specs.Slice.{Asked, In, Plain}
use Rattle.iw44_slices.specs.Reading.{form_of, states_after}
use Rattle.iw44_slices.specs.Kept.{number_of, states_in, Names}
use Rattle.iw44_slices.specs.declared.contexts.Contexts.{Contexts}
use Rattle.iw44_slices.specs.declared.contexts.Question.TheVariants as question

-- a number that a context has
number_if : (t : Bool) (a : ℕ) → (if t then a else 98) < 98 → (t ≡ true) × ((if t then a else 98) ≡ a)
number_if true a low = (refl, refl)
number_if false a low = absurd (omega arith)

both_low : (band number : ℕ) → (nat_lt band 10 && nat_lt number 8) ≡ true → (band < 10) × (number < 8)
both_low band number e = (grind (arith, nat_tests), grind (arith, nat_tests))

low : (number limit : ℕ) → nat_lt number limit ≡ true → number < limit
low number limit e = grind (arith, nat_tests)

start_is : (number : ℕ) → number_of (Start number) < 98 → (number < 16) × (number_of (Start number) ≡ 2 + number)
start_is number is = let told = number_if (nat_lt number 16) (2 + number) is in (low number 16 told.0, told.1)

bucket_is : (band number : ℕ) → number_of (Bucket band number) < 98 → (number < 8) × (number_of (Bucket band number) ≡ 18 + 8 * band + number)
bucket_is band number is =
    let told = number_if (nat_lt band 10 && nat_lt number 8) (18 + 8 * band + number) is in ((both_low band number told.0).1, told.1)

and_same : (a b : Bool) → a ≡ true → b ≡ true → (a && b) ≡ true
and_same true b first second = second
and_same false b first second = cc

-- contexts with the same number are the same
pub one_number : (a b : Context) → number_of a < 98 → number_of a ≡ number_of b → is_same a b ≡ true
one_number Root Root is e = refl
one_number Root (Bucket band number) is e = absurd (let other = bucket_is band number (omega arith) in let two = other.1 in omega arith)
one_number Root (Start number) is e = absurd (let other = start_is number (omega arith) in let two = other.1 in omega arith)
one_number Root Mantissa is e = absurd (omega arith)
one_number (Bucket band number) Root is e = absurd (let other = bucket_is band number is in let two = other.1 in omega arith)
one_number (Bucket band number) (Bucket other_band other) is e =
    let first = bucket_is band number is in
    let second = bucket_is other_band other (omega arith) in
    let a = first.0 in
    let b = second.0 in
    let c = first.1 in
    let d = second.1 in
    let bands : band ≡ other_band = omega arith in
    let numbers : number ≡ other = omega arith in
    and_same (band == other_band) (number == other) (eq-eqb band other_band bands) (eq-eqb number other numbers)
one_number (Bucket band number) (Start other) is e =
    absurd (let first = bucket_is band number is in let second = start_is other (omega arith) in let a = second.0 in let c = first.1 in let d = second.1 in
    omega arith)
one_number (Bucket band number) Mantissa is e = absurd (let other = bucket_is band number is in let two = other.1 in omega arith)
one_number (Start number) Root is e = absurd (let other = start_is number is in let two = other.1 in omega arith)
one_number (Start number) (Bucket band other) is e =
    absurd (let first = start_is number is in let second = bucket_is band other (omega arith) in let a = first.0 in let c = first.1 in let d = second.1 in
    omega arith)
one_number (Start number) (Start other) is e =
    let first = start_is number is in
    let second = start_is other (omega arith) in
    let c = first.1 in
    let d = second.1 in
    let numbers : number ≡ other = omega arith in
    eq-eqb number other numbers
one_number (Start number) Mantissa is e = absurd (let other = start_is number is in let two = other.1 in omega arith)
one_number Mantissa Root is e = absurd (omega arith)
one_number Mantissa (Bucket band number) is e = absurd (let other = bucket_is band number (omega arith) in let two = other.1 in omega arith)
one_number Mantissa (Start number) is e = absurd (let other = start_is number (omega arith) in let two = other.1 in omega arith)
one_number Mantissa Mantissa is e = refl

two_true : (a b : Bool) → (a && b) ≡ true → (a ≡ true) × (b ≡ true)
two_true true b e = (refl, e)
two_true false b e = cc

-- and the same contexts have one number
pub same_number : (a b : Context) → is_same a b ≡ true → number_of a ≡ number_of b
same_number Root Root e = refl
same_number Root (Bucket band number) e = cc
same_number Root (Start number) e = cc
same_number Root Mantissa e = cc
same_number (Bucket band number) Root e = cc
same_number (Bucket band number) (Bucket other_band other) e =
    let both = two_true (band == other_band) (number == other) e in
    ap (λ (n : ℕ). number_of (Bucket n number)) (eqb-true band other_band both.0)
    ∙ ap (λ (n : ℕ). number_of (Bucket other_band n)) (eqb-true number other both.1)
same_number (Bucket band number) (Start other) e = cc
same_number (Bucket band number) Mantissa e = cc
same_number (Start number) Root e = cc
same_number (Start number) (Bucket band other) e = cc
same_number (Start number) (Start other) e = ap (λ (n : ℕ). number_of (Start n)) (eqb-true number other e)
same_number (Start number) Mantissa e = cc
same_number Mantissa Root e = cc
same_number Mantissa (Bucket band number) e = cc
same_number Mantissa (Start number) e = cc
same_number Mantissa Mantissa e = refl

constant : (count i state : ℕ) → get_or (replicate count state) i state ≡ state
constant count i state =
    elim (cases_lt i count) [
      | inl within ↦ get_or-replicate count i state state within
      | inr past ↦ get_or_past (replicate count state) i state (omega (arith, length-replicate count state))
    ]

pub all_zero : (contexts : Contexts) (count : ℕ) → contexts.states ≡ replicate count 0 → states_in contexts ≡ fresh
unfolding states_in
all_zero contexts count e = fun_ext (λ context. ap (λ cells. get_or cells (number_of context) 0) e ∙ constant count (number_of context) 0)

-- the form of a decision that is read in the context with a number
pub form_in : (asked : Asked) (number : ℕ) (contexts : Contexts) (state : ℕ) → Names asked (question.In number) → state ≡ get_or contexts.states number 0 →
    Adaptive state ≡ form_of asked (states_in contexts)
unfolding states_in
form_in (In context) number contexts state names is = ap Adaptive (is ∙ ap (λ (n : ℕ). get_or contexts.states n 0) (sym names.0))
form_in Plain number contexts state names is = absurd names

pub states_put : (asked : Asked) (number : ℕ) (old new : Contexts) (state : ℕ) → Names asked (question.In number) → length old.states ≡ 98 →
    new.states ≡ set old.states number state →
    states_in new ≡ states_after asked state (states_in old)
unfolding states_in
states_put Plain number old new state names size made = absurd names
states_put (In context) number old new state names size made = fun_ext (λ other.
    let known : number_of context < 98 = let a = names.0 in let b = names.1 in omega arith in
    let inside : number_of context < length old.states = omega arith in
    ap (λ cells. get_or cells (number_of other) 0) (made ∙ ap (λ i. set old.states i state) (sym names.0))
    ∙ elim (cases_Bool (is_same context other)) [
      | inl same ↦
          ap (λ n. get_or (set old.states (number_of context) state) n 0) (sym (same_number context other same))
          ∙ get_or-set_same old.states (number_of context) state 0 inside
          ∙ sym (stored_here is_same (states_in old) context other state same)
      | inr differs ↦
          get_or-set_other old.states (number_of context) (number_of other) state 0 (λ e.
          let is = one_number context other known (sym e) in
          let wrong = sym is ∙ differs in
          cc)
          ∙ sym (stored_elsewhere is_same (states_in old) context other state differs)
    ])

pub put_below : (asked : Asked) (number : ℕ) (old new : Contexts) (state count : ℕ) → Names asked (question.In number) → length old.states ≡ 98 →
    new.states ≡ set old.states number state →
    AreBelow count (states_in old) → state < count → AreBelow count (states_in new)
put_below Plain number old new state count names size made below within = absurd names
put_below (In context) number old new state count names size made below within =
    subst (AreBelow count) (sym (states_put (In context) number old new state names size made))
    (stored_below is_same (states_in old) context state count below within)

-- the state of a context is one of the table's rows
pub state_below : (asked : Asked) (number : ℕ) (contexts : Contexts) (state count : ℕ) → Names asked (question.In number) →
    state ≡ get_or contexts.states number 0 →
    AreBelow count (states_in contexts) → state < count
unfolding states_in
state_below Plain number contexts state count names is below = absurd names
state_below (In context) number contexts state count names is below =
    subst (λ (n : ℕ). n < count) (sym (is ∙ ap (λ (n : ℕ). get_or contexts.states n 0) (sym names.0))) (below context)

pub known_number : (asked : Asked) (number : ℕ) → Names asked (question.In number) → number < 98
known_number (In context) number names = names.1
known_number Plain number names = absurd names
