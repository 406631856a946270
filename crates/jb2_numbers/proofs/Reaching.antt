-- Each number is reached by its own decisions, and by these alone.
use Rattle.std.proofs.Common.{◌≡◌, ◌≤◌, ◌<◌, ◌+◌, ◌/◌, ◌==◌, ℕ, zero, suc, ℤ, pos, negsuc, Bool, true, false, not, List, [], ◌∷◌, length, refl, sym, ap, subst, ◌∙◌, inl, inr, ◌≤ℤ◌, arith}
use Rattle.std.specs.Prelude.{◌⊎◌, Some, None, nat_le, int_le, IsTrue}
use Rattle.std.proofs.lemmas.Grind.{common_steps}
use Rattle.jb2_numbers.specs.Phases.{Side, Phase, Sign, Doubling, Halving, Known, at_least, opposite, side_of, halved, settled, next_phase, implied_by, implied, is_known, allows, allows_by, size_of, decided}
use Rattle.jb2_numbers.specs.Number.{Wanted, phase_after, most_decisions, ArePossible, with_decided, first_decisions, decisions_of}
use Rattle.jb2_numbers.specs.Reader.{AreBounds}
use Rattle.jb2_numbers.proofs.Bounds.{phase_keeps}
use Rattle.jb2_numbers.proofs.Covering.{Covers, Earlier, covers_on, covers_back, reached, missed}
use Rattle.jb2_numbers.proofs.Sound.{few_before, few_sound}
use Rattle.jb2_numbers.proofs.Ending.{sound_of}

-- ---- the decisions of a value are allowed

record Fits (value low high : ℤ) : Type 0 where
  least : IsTrue (int_le low value)
  most : IsTrue (int_le value high)

abbrev FitsIn : ℤ → Phase → Type 0
FitsIn value (Sign low high) = Fits value low high
FitsIn value (Doubling side cutoff) = Fits (pos (size_of value)) side.low side.high
FitsIn value (Halving side cutoff range) = Fits (pos (size_of value)) side.low side.high
FitsIn value (Known known) = Unit {0}

opposite_order : (a b : ℤ) → IsTrue (int_le a b) → IsTrue (int_le (opposite b) (opposite a))
opposite_order (pos a) (pos b) h = grind (arith, common_steps)
opposite_order (pos a) (negsuc b) h = absurd (cc)
opposite_order (negsuc a) (pos b) h = refl
opposite_order (negsuc a) (negsuc b) h = grind (arith, common_steps)

sign_fits : (low high value : ℤ) (decision : Bool) → at_least value 0 ≡ decision → Fits value low high →
    Fits (pos (size_of value)) (side_of low high decision).low (side_of low high decision).high
sign_fits low high (pos n) true e fits = fits
sign_fits low high (pos n) false e fits = let less : n < 0 = missed 0 n e in absurd (omega (arith, less))
sign_fits low high (negsuc n) true e fits = absurd (cc)
sign_fits low high (negsuc n) false e fits = record { least = opposite_order (negsuc n) high fits.most; most = opposite_order low (negsuc n) fits.least }

settled_fits : (value : ℤ) (side : Side) (cutoff range : ℕ) (one : Bool) → (range == 1) ≡ one → Fits (pos (size_of value)) side.low side.high →
    FitsIn value (settled side cutoff range)
settled_fits value side cutoff range true e fits = rw e tt
settled_fits value side cutoff range false e fits = rw e fits

halved_fits : (value : ℤ) (side : Side) (cutoff range : ℕ) (decision one : Bool) → (range == 1) ≡ one → Fits (pos (size_of value)) side.low side.high →
    FitsIn value (halved side cutoff range decision)
halved_fits value side cutoff range decision true e fits = rw e tt
halved_fits value side cutoff range decision false e fits = rw e fits

fits_on : (value : ℤ) (phase : Phase) (decision : Bool) → decided value phase ≡ decision → FitsIn value phase → FitsIn value (next_phase phase decision)
fits_on value (Sign low high) decision e fits = sign_fits low high value decision e fits
fits_on value (Doubling side cutoff) true e fits = fits
fits_on value (Doubling side cutoff) false e fits = settled_fits value side cutoff ((cutoff + 1) / 2) ((cutoff + 1) / 2 == 1) refl fits
fits_on value (Halving side cutoff range) decision e fits = halved_fits value side cutoff (range / 2) decision (range / 2 == 1) refl fits
fits_on value (Known known) decision e fits = tt

high_reached : (high : ℤ) (cutoff n : ℕ) → cutoff ≤ n → IsTrue (int_le (pos n) high) → IsTrue (at_least high cutoff)
high_reached (pos m) cutoff n from most = grind (arith, common_steps)
high_reached (negsuc m) cutoff n from most = absurd (cc)

low_missed : (low : ℤ) (cutoff n : ℕ) → n < cutoff → IsTrue (int_le low (pos n)) → IsTrue (not (at_least low cutoff))
low_missed (pos m) cutoff n below least = grind (arith, common_steps)
low_missed (negsuc m) cutoff n below least = refl

size_allowed : (low high : ℤ) (cutoff n : ℕ) (decision : Bool) → nat_le cutoff n ≡ decision → Fits (pos n) low high →
    IsTrue (allows_by low high cutoff decision)
size_allowed low high cutoff n true e fits = high_reached high cutoff n (reached cutoff n e) fits.most
size_allowed low high cutoff n false e fits = low_missed low cutoff n (missed cutoff n e) fits.least

sign_allowed : (low high value : ℤ) (decision : Bool) → at_least value 0 ≡ decision → Fits value low high → IsTrue (allows_by low high 0 decision)
sign_allowed low high (pos n) true e fits = high_reached high 0 n (reached 0 n e) fits.most
sign_allowed low high (pos n) false e fits = let less : n < 0 = missed 0 n e in absurd (omega (arith, less))
sign_allowed low high (negsuc n) true e fits = absurd (cc)
sign_allowed (pos m) high (negsuc n) false e fits = absurd (cc (fits.least))
sign_allowed (negsuc m) high (negsuc n) false e fits = refl

own_allowed : (value : ℤ) (phase : Phase) (decision : Bool) → is_known phase ≡ false → decided value phase ≡ decision → FitsIn value phase →
    IsTrue (allows phase decision)
own_allowed value (Sign low high) decision unknown e fits = sign_allowed low high value decision e fits
own_allowed value (Doubling side cutoff) decision unknown e fits = size_allowed side.low side.high cutoff (size_of value) decision e fits
own_allowed value (Halving side cutoff range) decision unknown e fits = size_allowed side.low side.high cutoff (size_of value) decision e fits
own_allowed value (Known known) decision unknown e fits = absurd (cc)

-- an implied decision is the only one that is allowed
implied_one : (low high : ℤ) (cutoff : ℕ) (bit decision a b : Bool) → at_least low cutoff ≡ a → at_least high cutoff ≡ b →
    implied_by low high cutoff ≡ Some bit → IsTrue (allows_by low high cutoff decision) → bit ≡ decision
implied_one low high cutoff true true a b la hb e allowed = refl
implied_one low high cutoff false false a b la hb e allowed = refl
implied_one low high cutoff true false true b la hb e allowed = absurd (cc (la, allowed))
implied_one low high cutoff true false false true la hb e allowed = let none : implied_by low high cutoff ≡ None = rw (la, hb) refl in absurd (cc (none, e))
implied_one low high cutoff true false false false la hb e allowed = let no : implied_by low high cutoff ≡ Some false = rw (la, hb) refl in absurd (cc (no, e))
implied_one low high cutoff false true true b la hb e allowed = let yes : implied_by low high cutoff ≡ Some true = rw la refl in absurd (cc (yes, e))
implied_one low high cutoff false true false true la hb e allowed = let none : implied_by low high cutoff ≡ None = rw (la, hb) refl in absurd (cc (none, e))
implied_one low high cutoff false true false false la hb e allowed = absurd (cc (hb, allowed))

implied_own : (phase : Phase) (bit decision : Bool) → implied phase ≡ Some bit → IsTrue (allows phase decision) → bit ≡ decision
implied_own (Sign low high) bit decision e allowed = implied_one low high 0 bit decision (at_least low 0) (at_least high 0) refl refl e allowed
implied_own (Doubling side cutoff) bit decision e allowed = implied_one side.low side.high cutoff bit decision (at_least side.low cutoff)
    (at_least side.high cutoff) refl refl e allowed
implied_own (Halving side cutoff range) bit decision e allowed = implied_one side.low side.high cutoff bit decision (at_least side.low cutoff)
    (at_least side.high cutoff) refl refl e allowed
implied_own (Known known) bit decision e allowed = absurd (cc)

-- ---- the decisions of a value

-- a phase, and what a value says there
data Says (value : ℤ) (decisions : List Bool) (phase : Phase) : Type 0 where
  known : (x : ℤ) → phase ≡ Known x → with_decided value decisions phase ≡ decisions → Says value decisions phase
  one : is_known phase ≡ false → with_decided value decisions phase ≡ decided value phase ∷ decisions → Says value decisions phase

says : (value : ℤ) (decisions : List Bool) (phase : Phase) → Says value decisions phase
says value decisions (Sign low high) = one refl refl
says value decisions (Doubling side cutoff) = one refl refl
says value decisions (Halving side cutoff range) = one refl refl
says value decisions (Known x) = known x refl refl

record Leads (wanted : Wanted) (value : ℤ) (decisions : List Bool) : Type 0 where
  possible : ArePossible wanted decisions
  covers : Covers value (phase_after wanted decisions)
  fits : FitsIn value (phase_after wanted decisions)

leads_on : (wanted : Wanted) (value : ℤ) (decisions : List Bool) → Leads wanted value decisions → Says value decisions (phase_after wanted decisions) →
    Leads wanted value (with_decided value decisions (phase_after wanted decisions))
leads_on wanted value decisions leads (known x is same) = subst (Leads wanted value) (sym same) leads
leads_on wanted value decisions leads (one unknown same) =
    let phase : Phase = phase_after wanted decisions in
    subst (Leads wanted value) (sym same) (record {
      possible = (leads.possible, own_allowed value (phase_after wanted decisions) (decided value (phase_after wanted decisions)) unknown refl leads.fits);
      covers = covers_on wanted value (phase_after wanted decisions) (decided value (phase_after wanted decisions))
          (phase_keeps wanted decisions leads.possible) unknown leads.covers refl;
      fits = fits_on value (phase_after wanted decisions) (decided value (phase_after wanted decisions)) refl leads.fits;
    })

leads_first : (count : ℕ) (wanted : Wanted) (value : ℤ) → Fits value wanted.low wanted.high → Leads wanted value (first_decisions count wanted value)
leads_first zero wanted value fits = record { possible = tt; covers = tt; fits = fits }
leads_first (suc count) wanted value fits =
    leads_on wanted value (first_decisions count wanted value) (leads_first count wanted value fits)
    (says value (first_decisions count wanted value) (phase_after wanted (first_decisions count wanted value)))

-- as many as that, or the number is known
data Length (wanted : Wanted) (value : ℤ) (count : ℕ) (decisions : List Bool) : Type 0 where
  ended : (x : ℤ) → phase_after wanted decisions ≡ Known x → Length wanted value count decisions
  long : length decisions ≡ count → Length wanted value count decisions

length_on : (wanted : Wanted) (value : ℤ) (count : ℕ) (decisions : List Bool) → Length wanted value count decisions →
    Says value decisions (phase_after wanted decisions) →
    Length wanted value (suc count) (with_decided value decisions (phase_after wanted decisions))
length_on wanted value count decisions (ended x is) (known y at same) = subst (Length wanted value (suc count)) (sym same) (ended x is)
length_on wanted value count decisions (long n) (known y at same) = subst (Length wanted value (suc count)) (sym same) (ended y at)
length_on wanted value count decisions (ended x is) (one unknown same) =
    let no : is_known (phase_after wanted decisions) ≡ true = ap is_known is in absurd (cc (no, unknown))
length_on wanted value count decisions (long n) (one unknown same) =
    subst (Length wanted value (suc count)) (sym same) (long (ap suc n))

length_first : (count : ℕ) (wanted : Wanted) (value : ℤ) → Length wanted value count (first_decisions count wanted value)
length_first zero wanted value = long refl
length_first (suc count) wanted value =
    length_on wanted value count (first_decisions count wanted value) (length_first count wanted value)
    (says value (first_decisions count wanted value) (phase_after wanted (first_decisions count wanted value)))

reached_by : (wanted : Wanted) (value : ℤ) (decisions : List Bool) → AreBounds wanted.low wanted.high → Leads wanted value decisions →
    Length wanted value 36 decisions → Says value decisions (phase_after wanted decisions) →
    phase_after wanted decisions ≡ Known value
reached_by wanted value decisions bounds leads (ended x is) s =
    let same : x ≡ value = subst (Covers value) is leads.covers in
    is ∙ ap (λ (v : ℤ). Known v) same
reached_by wanted value decisions bounds leads (long n) (known x is same) =
    let there : x ≡ value = subst (Covers value) is leads.covers in
    is ∙ ap (λ (v : ℤ). Known v) there
reached_by wanted value decisions bounds leads (long n) (one unknown same) =
    let allowed = own_allowed value (phase_after wanted decisions) (decided value (phase_after wanted decisions)) unknown refl leads.fits in
    let few = few_before (length decisions) (phase_after wanted decisions) (decided value (phase_after wanted decisions))
    (sound_of wanted decisions bounds leads.possible) allowed in
    absurd (omega (arith, few, n))

le_test : (a b : ℤ) → a ≤ℤ b → IsTrue (int_le a b)
le_test a b h = search (arith, h)

pub value_reached : (wanted : Wanted) (value : ℤ) → AreBounds wanted.low wanted.high → wanted.low ≤ℤ value → value ≤ℤ wanted.high →
    phase_after wanted (decisions_of wanted value) ≡ Known value
unfolding most_decisions
value_reached wanted value bounds least most =
    reached_by wanted value (first_decisions 36 wanted value) bounds
    (leads_first 36 wanted value (record { least = le_test wanted.low value least; most = le_test value wanted.high most })) (length_first 36 wanted value)
    (says value (first_decisions 36 wanted value) (phase_after wanted (first_decisions 36 wanted value)))

pub value_possible : (wanted : Wanted) (value : ℤ) (count : ℕ) → AreBounds wanted.low wanted.high → wanted.low ≤ℤ value → value ≤ℤ wanted.high →
    ArePossible wanted (first_decisions count wanted value)
value_possible wanted value count bounds least most =
    (leads_first count wanted value (record { least = le_test wanted.low value least; most = le_test value wanted.high most })).possible

unknown_implied : (phase : Phase) (bit : Bool) → implied phase ≡ Some bit → is_known phase ≡ false
unknown_implied (Sign low high) bit e = refl
unknown_implied (Doubling side cutoff) bit e = refl
unknown_implied (Halving side cutoff range) bit e = refl
unknown_implied (Known value) bit e = absurd (cc)

pub value_implied : (wanted : Wanted) (value : ℤ) (count : ℕ) (bit : Bool) → AreBounds wanted.low wanted.high → wanted.low ≤ℤ value → value ≤ℤ wanted.high →
    implied (phase_after wanted (first_decisions count wanted value)) ≡ Some bit → bit ≡ decided value (phase_after wanted (first_decisions count wanted value))
value_implied wanted value count bit bounds least most e =
    let decisions : List Bool = first_decisions count wanted value in
    let leads = leads_first count wanted value (record { least = le_test wanted.low value least; most = le_test value wanted.high most }) in
    implied_own (phase_after wanted decisions) bit (decided value (phase_after wanted decisions)) e
    (own_allowed value (phase_after wanted decisions) (decided value (phase_after wanted decisions))
    (unknown_implied (phase_after wanted decisions) bit e) refl leads.fits)

-- ---- and no others

own_more : (value : ℤ) (decisions : List Bool) (phase : Phase) (decision : Bool) → IsTrue (allows phase decision) → decided value phase ≡ decision →
    with_decided value decisions phase ≡ decision ∷ decisions
own_more value decisions (Sign low high) decision allowed e = ap (λ (d : Bool). d ∷ decisions) e
own_more value decisions (Doubling side cutoff) decision allowed e = ap (λ (d : Bool). d ∷ decisions) e
own_more value decisions (Halving side cutoff range) decision allowed e = ap (λ (d : Bool). d ∷ decisions) e
own_more value decisions (Known x) decision allowed e = absurd (cc)

own_first : (wanted : Wanted) (value : ℤ) (decisions : List Bool) → ArePossible wanted decisions → Covers value (phase_after wanted decisions) →
    first_decisions (length decisions) wanted value ≡ decisions
own_first wanted value [] possible covers = refl
own_first wanted value (decision ∷ decisions) possible covers =
    let earlier : Earlier value (phase_after wanted decisions) decision =
    covers_back wanted value (phase_after wanted decisions) decision (phase_keeps wanted decisions possible.0) possible.1 covers in
    ap (λ (ds : List Bool). with_decided value ds (phase_after wanted ds)) (own_first wanted value decisions possible.0 earlier.covers)
    ∙ own_more value decisions (phase_after wanted decisions) decision possible.1 earlier.own

last_or_before : (n m : ℕ) → n ≤ suc m → (n ≡ suc m) ⊎ (n ≤ m)
last_or_before n m h = search arith

first_ended : (wanted : Wanted) (value x : ℤ) (m n : ℕ) → n ≤ m → phase_after wanted (first_decisions n wanted value) ≡ Known x →
    first_decisions m wanted value ≡ first_decisions n wanted value
first_ended wanted value x zero n less last = let none : zero ≡ n = omega arith in ap (λ (k : ℕ). first_decisions k wanted value) none
first_ended wanted value x (suc m) n less last =
    elim (last_or_before n m less) [
      | inl same ↦ ap (λ (k : ℕ). first_decisions k wanted value) (sym same)
      | inr before ↦
          ap (λ (ds : List Bool). with_decided value ds (phase_after wanted ds)) (first_ended wanted value x m n before last)
          ∙ ap (with_decided value (first_decisions n wanted value)) last
    ]

pub value_alone : (wanted : Wanted) (value : ℤ) (decisions : List Bool) → AreBounds wanted.low wanted.high → ArePossible wanted decisions →
    phase_after wanted decisions ≡ Known value → decisions ≡ decisions_of wanted value
unfolding most_decisions
value_alone wanted value decisions bounds possible at_end =
    let first : first_decisions (length decisions) wanted value ≡ decisions = own_first wanted value decisions possible
    (subst (Covers value) (sym at_end) refl) in
    let few : length decisions ≤ 36 = few_sound (length decisions) (phase_after wanted decisions) (sound_of wanted decisions bounds possible) in
    sym (first_ended wanted value value 36 (length decisions) few (ap (phase_after wanted) first ∙ at_end) ∙ first)
