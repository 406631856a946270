-- What holds of the coefficients along the course of a slice.
use Rattle.std.proofs.Common.{◌≡◌, ◌≢◌, ℕ, zero, suc, ◌+◌, ◌-◌, ◌*◌, ◌/◌, ◌<◌, ◌≤◌, Bool, true, false, ◌&&◌, ◌||◌, List, [], ◌∷◌, ◌++◌, length, ℤ, pos}
use Rattle.std.proofs.Common.{unsigned_abs, eqb-true, inl, inr, refl, ap, sym, ◌∙◌, subst, arith, get_or}
use Rattle.std.specs.Prelude.{if◌then◌else◌, ◌⊎◌, not, ◌==◌}
use Rattle.std.proofs.lemmas.Bool.{cases_lt, cases_eq}
use Rattle.std.proofs.lemmas.List.{get_or-set_same, get_or-set_other, get_or_past, set_past, length_push}
use Rattle.iw44_blocks.specs.Plane.{Plane, block_count, coefficient, with_coefficient}
use Rattle.iw44_slices.specs.Bands.{band_of, first_bucket, bucket_count, threshold, is_in_use}
use Rattle.iw44_slices.specs.Slice.{Place, Course, threshold_at, before_at, is_active, is_unknown, some_from, is_active_band, has_unknown, unknowns, start_size}
use Rattle.iw44_slices.specs.Slice.{signed, is_negative, raised_value, raises, all_raises, starts, all_starts, choices, block_course, blocks_course}
use Rattle.iw44_slices.specs.Slice.{does_something, slice_course}
use Rattle.iw44_blocks.specs.Words.{is_zero}
use Rattle.iw44_slices.specs.Sizes.{IsRaised, IsDue, InBand, Along}
use Rattle.iw44_slices.proofs.Sizes.{halved_at, start_due, raise_due, idle_due, due_small}

-- the first coefficient of a band, and the end of it
abbrev first_of : ℕ → ℕ
first_of band = 16 * first_bucket band

abbrev end_of : ℕ → ℕ
end_of band = 16 * first_bucket band + 16 * bucket_count band

-- what is kept along the course of a block, while coefficients start and while they are raised as far as one
record Kept (at : Place) (K : ℕ → Plane → Type 0) (P Q : Plane → Type 0) (rest : Plane → Course) : Type 0 where
  started : (plane : Plane) (i : ℕ) (negative : Bool) → InBand (band_of at.slice) i → is_unknown at i ≡ true → K (first_of (band_of at.slice)) plane →
      K (first_of (band_of at.slice)) (with_coefficient plane at.block i (signed negative (start_size (threshold_at at i))))
  raised : (plane : Plane) (i : ℕ) (bit : Bool) → InBand (band_of at.slice) i → is_active at i ≡ true → K i plane →
      K (i + 1) (with_coefficient plane at.block i (raised_value at i bit))
  skipped : (plane : Plane) (i : ℕ) → InBand (band_of at.slice) i → is_active at i ≡ false → K i plane → K (i + 1) plane
  asked : (plane : Plane) (i : ℕ) → K i plane → P plane
  goes : (plane : Plane) → K (end_of (band_of at.slice)) plane → Along P Q (rest plane)

along_if : (P Q : Plane → Type 0) (t : Bool) (a b : Course) → (t ≡ true → Along P Q a) → (t ≡ false → Along P Q b) → Along P Q (if t then a else b)
along_if P Q true a b h k = h refl
along_if P Q false a b h k = k refl

raises_along : (at : Place) (K : ℕ → Plane → Type 0) (P Q : Plane → Type 0) (rest : Plane → Course) (count i : ℕ) (plane : Plane) → Kept at K P Q rest →
    first_of (band_of at.slice) ≤ i → i + count ≡ end_of (band_of at.slice) → K i plane → Along P Q (raises at rest count i plane)
raises_along at K P Q rest zero i plane kept low all is = kept.goes plane
    (subst (λ (n : ℕ). K n plane) (let same : i ≡ end_of (band_of at.slice) = omega arith in same) is)
raises_along at K P Q rest (suc count) i plane kept low all is =
    let here : InBand (band_of at.slice) i = record { first = low; last = omega arith } in
    along_if P Q (is_active at i) _ _
    (λ active. (
      kept.asked plane i is,
      λ bit. raises_along at K P Q rest count (i + 1) (with_coefficient plane at.block i (raised_value at i bit)) kept
          (omega arith) (omega arith) (kept.raised plane i bit here active is),
    ))
    (λ idle. raises_along at K P Q rest count (i + 1) plane kept (omega arith) (omega arith) (kept.skipped plane i here idle is))

starts_along : (at : Place) (K : ℕ → Plane → Type 0) (P Q : Plane → Type 0) (rest later : Plane → Course) (bucket count i left : ℕ) (plane : Plane) →
    Kept at K P Q rest →
    ((after : Plane) → K (first_of (band_of at.slice)) after → Along P Q (later after)) →
    first_of (band_of at.slice) ≤ i → i + count ≤ end_of (band_of at.slice) → K (first_of (band_of at.slice)) plane →
    Along P Q (starts at later bucket count i left plane)
starts_along at K P Q rest later bucket zero i left plane kept goes low all is = goes plane is
starts_along at K P Q rest later bucket (suc count) i left plane kept goes low all is =
    let here : InBand (band_of at.slice) i = record { first = low; last = omega arith } in
    let ask = kept.asked plane (first_of (band_of at.slice)) is in
    along_if P Q (is_unknown at i) _ _
    (λ unknown. (
      ask,
      λ starting. along_if P Q starting _ _
          (λ yes'. (
            ask,
            λ negative. starts_along at K P Q rest later bucket count (i + 1) 0
                (with_coefficient plane at.block i (signed negative (start_size (threshold_at at i)))) kept goes (omega arith) (omega arith)
                (kept.started plane i negative here unknown is),
          ))
          (λ no'. starts_along at K P Q rest later bucket count (i + 1) (left - 1) plane kept goes (omega arith) (omega arith) is),
    ))
    (λ known. starts_along at K P Q rest later bucket count (i + 1) left plane kept goes (omega arith) (omega arith) is)

all_starts_along : (at : Place) (K : ℕ → Plane → Type 0) (P Q : Plane → Type 0) (rest : Plane → Course) (bucket : ℕ) (chosen : List Bool) (plane : Plane) →
    Kept at K P Q rest →
    first_bucket (band_of at.slice) ≤ bucket → bucket + length chosen ≤ first_bucket (band_of at.slice) + bucket_count (band_of at.slice) →
    K (first_of (band_of at.slice)) plane → Along P Q (all_starts at (all_raises at rest) bucket chosen plane)
all_starts_along at K P Q rest bucket [] plane kept low all is =
    raises_along at K P Q rest (16 * bucket_count (band_of at.slice)) (first_of (band_of at.slice)) plane kept (omega arith) (omega arith) is
all_starts_along at K P Q rest bucket (true ∷ later) plane kept low all is =
    starts_along at K P Q rest (all_starts at (all_raises at rest) (bucket + 1) later) bucket 16 (16 * bucket) (unknowns at bucket) plane kept
    (λ after holds. all_starts_along at K P Q rest (bucket + 1) later after kept (omega arith) (omega arith) holds) (omega arith) (omega arith) is
all_starts_along at K P Q rest bucket (false ∷ later) plane kept low all is =
    all_starts_along at K P Q rest (bucket + 1) later plane kept (omega arith) (omega arith) is

choices_along : (at : Place) (K : ℕ → Plane → Type 0) (P Q : Plane → Type 0) (rest : Plane → Course) (count bucket : ℕ) (chosen : List Bool) →
    Kept at K P Q rest →
    first_bucket (band_of at.slice) + length chosen + count ≡ first_bucket (band_of at.slice) + bucket_count (band_of at.slice) →
    K (first_of (band_of at.slice)) at.before → Along P Q (choices at rest count bucket chosen)
choices_along at K P Q rest zero bucket chosen kept all is =
    all_starts_along at K P Q rest (first_bucket (band_of at.slice)) chosen at.before kept (omega arith) (omega arith) is
choices_along at K P Q rest (suc count) bucket chosen kept all is =
    let more = λ (bit : Bool). length_push chosen bit in
    along_if P Q (has_unknown at bucket) _ _
    (λ some. (
      kept.asked at.before (first_of (band_of at.slice)) is,
      λ bit. choices_along at K P Q rest count (bucket + 1) (chosen ++ bit ∷ []) kept
          (let e = more bit in omega arith) is,
    ))
    (λ none. choices_along at K P Q rest count (bucket + 1) (chosen ++ false ∷ []) kept (let e = more false in omega arith) is)

or_false : (a b : Bool) → (a || b) ≡ false → (a ≡ false) × (b ≡ false)
or_false true b e = cc
or_false false b e = (refl, e)

pub none_of : (test : ℕ → Bool) (count from i : ℕ) → some_from test count from ≡ false → from ≤ i → i < from + count → test i ≡ false
none_of test zero from i e low high = absurd (omega arith)
none_of test (suc count) from i e low high =
    let both = or_false (test from) (some_from test count (from + 1)) e in
    elim (cases_lt from i) [
      | inl less ↦ none_of test count (from + 1) i both.1 (omega arith) (omega arith)
      | inr same ↦ subst (λ (n : ℕ). test n ≡ false) (let at : from ≡ i = omega arith in at) both.0
    ]

-- where no coefficient is active, none is raised
skip_all : (at : Place) (K : ℕ → Plane → Type 0) (P Q : Plane → Type 0) (rest : Plane → Course) (count i : ℕ) (plane : Plane) → Kept at K P Q rest →
    is_active_band at ≡ false →
    first_of (band_of at.slice) ≤ i → i + count ≡ end_of (band_of at.slice) → K i plane → K (end_of (band_of at.slice)) plane
skip_all at K P Q rest zero i plane kept idle low all is = subst (λ (n : ℕ). K n plane) (let same : i ≡ end_of (band_of at.slice) = omega arith in same) is
skip_all at K P Q rest (suc count) i plane kept idle low all is =
    skip_all at K P Q rest count (i + 1) plane kept idle (omega arith) (omega arith)
    (kept.skipped plane i (record { first = low; last = omega arith })
    (none_of (is_active at) (16 * bucket_count (band_of at.slice)) (16 * first_bucket (band_of at.slice)) i idle low (omega arith)) is)

not_and : (a b : Bool) → (a && not b) ≡ true → b ≡ false
not_and true true e = cc
not_and true false e = refl
not_and false b e = cc

block_along : (at : Place) (K : ℕ → Plane → Type 0) (P Q : Plane → Type 0) (rest : Plane → Course) → Kept at K P Q rest →
    K (first_of (band_of at.slice)) at.before → Along P Q (block_course at rest)
block_along at K P Q rest kept is =
    let goes = choices_along at K P Q rest (bucket_count (band_of at.slice)) (first_bucket (band_of at.slice)) [] kept (omega arith) is in
    along_if P Q ((bucket_count (band_of at.slice) == 16) && not (is_active_band at)) _ _
    (λ root. (
      kept.asked at.before (first_of (band_of at.slice)) is,
      λ bit. along_if P Q bit _ _ (λ more. goes)
          (λ less. kept.goes at.before (skip_all at K P Q rest (16 * bucket_count (band_of at.slice)) (first_of (band_of at.slice)) at.before kept
          (not_and (bucket_count (band_of at.slice) == 16) (is_active_band at) root) (omega arith) (omega arith) is)),
    ))
    (λ none. goes)

-- one coefficient, by its block and index

-- another one is as it was
other_value : (plane : Plane) (b i c m : ℕ) (value : ℤ) → i < 1024 → m < 1024 → (b ≢ c) ⊎ (i ≢ m) →
    coefficient (with_coefficient plane b i value) c m ≡ coefficient plane c m
other_value plane b i c m value low high apart =
    get_or-set_other plane.numbers (1024 * b + i) (1024 * c + m) value (pos 0)
    (λ e. elim apart [ inl blocks ↦ blocks (omega arith) | inr indices ↦ indices (omega arith) ])

-- the same one is as it was put, where it is one of the plane's
put_value : (plane : Plane) (b i : ℕ) (value : ℤ) → (coefficient (with_coefficient plane b i value) b i ≡ value) ⊎
    (coefficient (with_coefficient plane b i value) b i ≡ pos 0)
put_value plane b i value = elim (cases_lt (1024 * b + i) (length plane.numbers)) [
  | inl inside ↦ inl (get_or-set_same plane.numbers (1024 * b + i) value (pos 0) inside)
  | inr past ↦ inr (ap (λ (numbers : List ℤ). get_or numbers (1024 * b + i) (pos 0)) (set_past plane.numbers (1024 * b + i) value past)
      ∙ get_or_past plane.numbers (1024 * b + i) (pos 0) past)
]

due_is : (t : ℕ) (v w : ℤ) → v ≡ w → IsDue t w → IsDue t v
due_is t v w e is = subst (IsDue t) (sym e) is

zero_due : (t : ℕ) (v : ℤ) → v ≡ pos 0 → IsDue t v
zero_due t v e = inl (ap unsigned_abs e)

-- what was put is due, whether it is one of the plane's or not
put_due : (t : ℕ) (plane : Plane) (b i : ℕ) (value : ℤ) → IsDue t value → IsDue t (coefficient (with_coefficient plane b i value) b i)
put_due t plane b i value is = elim (put_value plane b i value) [
  | inl there ↦ due_is t _ value there is
  | inr past ↦ zero_due t _ past
]

abbrev pub Small : ℕ → ℕ → Plane → Type 0
Small c m plane = unsigned_abs (coefficient plane c m) ≤ 32767

-- its next threshold halved
abbrev pub After : ℕ → ℕ → ℕ → Plane → Type 0
After slice c m plane = IsDue (threshold slice m / 2) (coefficient plane c m)

-- while its own block is read: what isn't active or was raised is done
abbrev Doing : Place → ℕ → ℕ → ℕ → Plane → Type 0
Doing at c m i plane = Small c m plane × ((is_active at m ≡ false) ⊎ (m < i) → After at.slice c m plane)

and_true : (a b : Bool) → (a && b) ≡ true → (a ≡ true) × (b ≡ true)
and_true true b e = (refl, e)
and_true false b e = cc

-- an active coefficient isn't 0
active_facts : (at : Place) (i : ℕ) → is_active at i ≡ true → (is_in_use (threshold_at at i) ≡ true) × (is_zero (before_at at i) ≡ false)
active_facts at i e = let both = and_true (is_in_use (threshold_at at i)) (not (is_zero (before_at at i))) e in
    (both.0, not_and true (is_zero (before_at at i)) both.1)

raised_of : (t : ℕ) (value : ℤ) → IsDue t value → is_zero value ≡ false → IsRaised t (unsigned_abs value)
raised_of t value (inl empty) e = absurd (let same : is_zero value ≡ true = ap (λ (n : ℕ). n == 0) empty in let wrong = sym same ∙ e in cc)
raised_of t value (inr more) e = more

zero_size : (value : ℤ) → is_zero value ≡ true → unsigned_abs value ≡ 0
zero_size value e = eqb-true (unsigned_abs value) 0 e

-- a coefficient that isn't active is 0, or its threshold isn't in use
idle_after : (t : ℕ) (value : ℤ) (used : Bool) (empty : Bool) → is_in_use t ≡ used → is_zero value ≡ empty → (used && not empty) ≡ false → IsDue t value →
    IsDue (t / 2) value
idle_after t value false empty u z e is = idle_due t value u is
idle_after t value true true u z e is = inl (zero_size value z)
idle_after t value true false u z e is = cc

after_small : (slice c m : ℕ) (plane : Plane) → After slice c m plane → Small c m plane
after_small slice c m plane is = due_small (threshold slice m / 2) (coefficient plane c m) is

small_as : (v w : ℤ) → v ≡ w → unsigned_abs w ≤ 32767 → unsigned_abs v ≤ 32767
small_as v w e low = subst (λ (z : ℤ). unsigned_abs z ≤ 32767) (sym e) low

below : (at : Place) (i : ℕ) → InBand (band_of at.slice) i → end_of (band_of at.slice) ≤ 1024 → i < 1024
below at i there within = let high = there.last in omega arith

earlier : (active : Bool) (i m : ℕ) → i ≢ m → (active ≡ false) ⊎ (m < i + 1) → (active ≡ false) ⊎ (m < i)
earlier active i m apart (inl idle) = inl idle
earlier active i m apart (inr low) = inr (omega arith)

doing : (at : Place) (m : ℕ) (P Q : Plane → Type 0) (rest : Plane → Course) → InBand (band_of at.slice) m → m < 1024 → end_of (band_of at.slice) ≤ 1024 →
    IsDue (threshold at.slice m) (before_at at m) →
    ((plane : Plane) → Small at.block m plane → P plane) → ((plane : Plane) → After at.slice at.block m plane → Along P Q (rest plane)) →
    Kept at (Doing at at.block m) P Q rest
doing at m P Q rest here small within is_due asks goes = record {
  started = λ plane i negative there unknown is. elim (cases_eq i m) [
    | inl same ↦
        let put : After at.slice at.block i (with_coefficient plane at.block i (signed negative (start_size (threshold_at at i)))) =
        put_due (threshold at.slice i / 2) plane at.block i (signed negative (start_size (threshold_at at i)))
        (start_due (threshold at.slice i) negative (halved_at at.slice i) (and_true (is_in_use (threshold_at at i)) (is_zero (before_at at i)) unknown).0) in
        let moved : After at.slice at.block m (with_coefficient plane at.block i (signed negative (start_size (threshold_at at i)))) =
        subst (λ (n : ℕ). After at.slice at.block n (with_coefficient plane at.block i (signed negative (start_size (threshold_at at i))))) same put in
        (after_small at.slice at.block m (with_coefficient plane at.block i (signed negative (start_size (threshold_at at i)))) moved, λ done. moved)
    | inr apart ↦
        let same = other_value plane at.block i at.block m (signed negative (start_size (threshold_at at i))) (below at i there within) small (inr apart) in
        (small_as _ _ same is.0, λ done. due_is (threshold at.slice m / 2) _ _ same (is.1 done))
  ];
  raised = λ plane i bit there active is. elim (cases_eq i m) [
    | inl same ↦
        let facts = active_facts at i active in
        let due_here : IsDue (threshold at.slice i) (before_at at i) = subst (λ (n : ℕ). IsDue (threshold at.slice n) (before_at at n)) (sym same) is_due in
        let put : After at.slice at.block i (with_coefficient plane at.block i (raised_value at i bit)) =
        put_due (threshold at.slice i / 2) plane at.block i (raised_value at i bit)
        (raise_due (threshold at.slice i) (unsigned_abs (before_at at i)) (is_negative (before_at at i)) bit (halved_at at.slice i) facts.0
        (raised_of (threshold at.slice i) (before_at at i) due_here facts.1)) in
        let moved : After at.slice at.block m (with_coefficient plane at.block i (raised_value at i bit)) =
        subst (λ (n : ℕ). After at.slice at.block n (with_coefficient plane at.block i (raised_value at i bit))) same put in
        (after_small at.slice at.block m (with_coefficient plane at.block i (raised_value at i bit)) moved, λ done. moved)
    | inr apart ↦
        let same = other_value plane at.block i at.block m (raised_value at i bit) (below at i there within) small (inr apart) in
        (small_as _ _ same is.0, λ done. due_is (threshold at.slice m / 2) _ _ same (is.1 (earlier (is_active at m) i m apart done)))
  ];
  skipped = λ plane i there idle is. (
    is.0,
    λ done. is.1 (elim (cases_eq i m) [
      | inl same ↦ inl (subst (λ (n : ℕ). is_active at n ≡ false) same idle)
      | inr apart ↦ earlier (is_active at m) i m apart done
    ]),
  );
  asked = λ plane i is. asks plane is.0;
  goes = λ plane is. goes plane (is.1 (inr here.last));
}

-- while another block is read, or another band
as_it_was : (at : Place) (c m : ℕ) (x : ℤ) (P Q : Plane → Type 0) (rest : Plane → Course) → m < 1024 → end_of (band_of at.slice) ≤ 1024 →
    ((i : ℕ) → InBand (band_of at.slice) i → (at.block ≢ c) ⊎ (i ≢ m)) → ((plane : Plane) → coefficient plane c m ≡ x → P plane) →
    ((plane : Plane) → coefficient plane c m ≡ x → Along P Q (rest plane)) → Kept at (λ i plane. coefficient plane c m ≡ x) P Q rest
as_it_was at c m x P Q rest small within apart asks goes = record {
  started = λ plane i negative there unknown is. other_value plane at.block i c m (signed negative (start_size (threshold_at at i)))
      (below at i there within) small (apart i there) ∙ is;
  raised = λ plane i bit there active is. other_value plane at.block i c m (raised_value at i bit) (below at i there within) small (apart i there) ∙ is;
  skipped = λ plane i there idle is. is;
  asked = λ plane i is. asks plane is;
  goes = λ plane is. goes plane is;
}

-- no band goes past the block
pub ends_within : (band : ℕ) → end_of band ≤ 1024
ends_within zero = omega arith
ends_within (suc zero) = omega arith
ends_within (suc (suc zero)) = omega arith
ends_within (suc (suc (suc zero))) = omega arith
ends_within (suc (suc (suc (suc zero)))) = omega arith
ends_within (suc (suc (suc (suc (suc zero))))) = omega arith
ends_within (suc (suc (suc (suc (suc (suc zero)))))) = omega arith
ends_within (suc (suc (suc (suc (suc (suc (suc zero))))))) = omega arith
ends_within (suc (suc (suc (suc (suc (suc (suc (suc zero)))))))) = omega arith
ends_within (suc (suc (suc (suc (suc (suc (suc (suc (suc zero))))))))) = omega arith
ends_within (suc (suc (suc (suc (suc (suc (suc (suc (suc (suc band)))))))))) = omega arith

-- blocks in order: a coefficient of the slice's band
blocks_do : (slice c m count b : ℕ) (plane : Plane) → InBand (band_of slice) m → c < b + count → (b ≤ c → IsDue (threshold slice m) (coefficient plane c m)) →
    (c < b → After slice c m plane) →
    Along (Small c m) (After slice c m) (blocks_course slice count b plane)
blocks_do slice c m zero b plane here all before after = after (omega arith)
blocks_do slice c m (suc count) b plane here all before after =
    let at : Place = record { slice = slice; block = b; before = plane } in
    let within = ends_within (band_of slice) in
    let small : m < 1024 = let high = here.last in omega arith in
    let rest : Plane → Course = λ then'. blocks_course slice count (b + 1) then' in
    elim (cases_eq b c) [
      | inl same ↦
          let is : IsDue (threshold slice m) (coefficient plane b m) =
          subst (λ (n : ℕ). IsDue (threshold slice m) (coefficient plane n m)) (sym same) (before (omega arith)) in
          let first : Doing at b m (first_of (band_of slice)) plane = (
            due_small (threshold slice m) (coefficient plane b m) is,
            λ done. elim done [
              | inl idle ↦ idle_after (threshold slice m) (coefficient plane b m) (is_in_use (threshold slice m))
                  (is_zero (coefficient plane b m)) refl refl idle is
              | inr low ↦ absurd (let high = here.first in omega arith)
            ],
          ) in
          block_along at (Doing at b m) (Small c m) (After slice c m) rest
          (doing at m (Small c m) (After slice c m) rest here small within is
          (λ then' low. subst (λ (n : ℕ). Small n m then') same low)
          (λ then' done. blocks_do slice c m count (b + 1) then' here (omega arith) (λ late. absurd (omega arith))
          (λ early. subst (λ (n : ℕ). After slice n m then') same done)))
          first
      | inr apart ↦
          let value = coefficient plane c m in
          let low : Small c m plane = elim (cases_lt c b) [
            | inl done ↦ after_small slice c m plane (after done)
            | inr later ↦ due_small (threshold slice m)
                (coefficient plane c m) (before (omega arith))
          ] in
          block_along at (λ i then'. coefficient then' c m ≡ value) (Small c m) (After slice c m) rest
          (as_it_was at c m value (Small c m) (After slice c m) rest small within (λ i there. inl apart) (λ then' is. small_as _ _ is low)
          (λ then' is. blocks_do slice c m count (b + 1) then' here (omega arith) (λ late. due_is _ _ _ is (before (omega arith)))
          (λ early. due_is _ _ _ is (after (omega arith)))))
          refl
    ]

-- and one of another band
blocks_keep : (slice c m count b : ℕ) (plane : Plane) (x : ℤ) → m < 1024 → (InBand (band_of slice) m → ⊥) → unsigned_abs x ≤ 32767 → coefficient plane c m ≡ x →
    Along (Small c m) (λ after. coefficient after c m ≡ x) (blocks_course slice count b plane)
blocks_keep slice c m zero b plane x small apart low is = is
blocks_keep slice c m (suc count) b plane x small apart low is =
    let at : Place = record { slice = slice; block = b; before = plane } in
    let rest : Plane → Course = λ then'. blocks_course slice count (b + 1) then' in
    block_along at (λ i then'. coefficient then' c m ≡ x) (Small c m) (λ after. coefficient after c m ≡ x) rest
    (as_it_was at c m x (Small c m) (λ after. coefficient after c m ≡ x) rest small (ends_within (band_of slice))
    (λ i there. inr (λ e. apart (subst (InBand (band_of slice)) e there)))
    (λ then' same. small_as _ _ same low) (λ then' same. blocks_keep slice c m count (b + 1) then' x small apart low same)) is

-- a slice
pub slice_does : (slice c m : ℕ) (plane : Plane) → InBand (band_of slice) m → c < block_count plane → IsDue (threshold slice m) (coefficient plane c m) →
    Along (Small c m) (After slice c m) (slice_course slice plane)
slice_does slice c m plane here inside is =
    along_if (Small c m) (After slice c m) (does_something slice) _ _
    (λ some. blocks_do slice c m (block_count plane) 0 plane here (omega arith) (λ late. is) (λ early. absurd (omega arith)))
    (λ none. idle_due (threshold slice m) (coefficient plane c m)
    (none_of (λ index. is_in_use (threshold slice index)) (16 * bucket_count (band_of slice)) (16 * first_bucket (band_of slice)) m none here.first here.last)
    is)

pub slice_keeps : (slice c m : ℕ) (plane : Plane) → m < 1024 → (InBand (band_of slice) m → ⊥) → unsigned_abs (coefficient plane c m) ≤ 32767 →
    Along (Small c m) (λ after. coefficient after c m ≡ coefficient plane c m) (slice_course slice plane)
slice_keeps slice c m plane small apart low =
    along_if (Small c m) (λ after. coefficient after c m ≡ coefficient plane c m) (does_something slice) _ _
    (λ some. blocks_keep slice c m (block_count plane) 0 plane (coefficient plane c m) small apart low refl) (λ none. refl)

-- the size of the plane stays
same_count : (at : Place) (n : ℕ) (rest : Plane → Course) → ((plane : Plane) → block_count plane ≡ n →
    Along (λ p. block_count p ≡ n) (λ p. block_count p ≡ n) (rest plane)) →
    Kept at (λ i plane. block_count plane ≡ n) (λ p. block_count p ≡ n) (λ p. block_count p ≡ n) rest
same_count at n rest goes = record {
  started = λ plane i negative there unknown is. is;
  raised = λ plane i bit there active is. is;
  skipped = λ plane i there idle is. is;
  asked = λ plane i is. is;
  goes = goes;
}

blocks_count : (slice n count b : ℕ) (plane : Plane) → block_count plane ≡ n →
    Along (λ p. block_count p ≡ n) (λ p. block_count p ≡ n) (blocks_course slice count b plane)
blocks_count slice n zero b plane is = is
blocks_count slice n (suc count) b plane is =
    let at : Place = record { slice = slice; block = b; before = plane } in
    let rest : Plane → Course = λ then'. blocks_course slice count (b + 1) then' in
    block_along at (λ i then'. block_count then' ≡ n) (λ p. block_count p ≡ n) (λ p. block_count p ≡ n) rest
    (same_count at n rest (λ then' same. blocks_count slice n count (b + 1) then' same)) is

pub slice_counts : (slice : ℕ) (plane : Plane) → Along (λ p. block_count p ≡ block_count plane) (λ p. block_count p ≡ block_count plane)
    (slice_course slice plane)
slice_counts slice plane =
    along_if (λ p. block_count p ≡ block_count plane) (λ p. block_count p ≡ block_count plane) (does_something slice) _ _
    (λ some. blocks_count slice (block_count plane) (block_count plane) 0 plane refl) (λ none. refl)
