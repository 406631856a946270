-- Courses with a decision at hand, and without one.
use Rattle.std.proofs.Common.{◌≡◌, ℕ, zero, suc, ◌+◌, ◌-◌, ◌*◌, ◌<◌, ◌≤◌, Bool, true, false, ◌&&◌, List, [], ◌∷◌, ◌++◌, length, take, get_or, set}
use Rattle.std.proofs.Common.{refl, ap, sym, ◌∙◌, arith}
use Rattle.std.specs.Prelude.{◌==◌, not, if◌then◌else◌}
use Rattle.std.proofs.lemmas.List.{length-take, get_or-take, drop_more, drop_all, take_more_set}
use Rattle.iw44_blocks.specs.Plane.{Plane, with_coefficient}
use Rattle.iw44_slices.specs.Bands.{band_of, bucket_count}
use Rattle.iw44_slices.specs.Contexts.{Root}
use Rattle.iw44_slices.specs.Slice.{Place, Course, Ended, Asks, In, Plain, threshold_at, is_active, is_unknown, is_active_band, has_unknown, unknowns}
use Rattle.iw44_slices.specs.Slice.{start_size, signed, bucket_context, start_context, raise_asked, raised_value, raises, all_raises, starts, all_starts}
use Rattle.iw44_slices.specs.Slice.{choices, all_choices, block_course, blocks_course}
use Rattle.iw44_blocks.specs.Words.{AreBits}
use Rattle.iw44_slices.specs.Reader.{place_at, first_at, count_at, chosen_from, from_bucket}
use Rattle.iw44_slices.proofs.Bits.{first_bit}

pub unless : (t : Bool) (a b : Course) → t ≡ false → (if t then a else b) ≡ b
unless true a b e = cc
unless false a b e = refl

pub when : (t : Bool) (a b : Course) → t ≡ true → (if t then a else b) ≡ a
when true a b e = refl
when false a b e = cc

-- raises

abbrev pub after_raise : Place → (Plane → Course) → ℕ → ℕ → Plane → Bool → Course
after_raise at rest n i plane bit = raises at rest n (i + 1) (with_coefficient plane at.block i (raised_value at i bit))

pub raises_pass : (at : Place) (rest : Plane → Course) (n i : ℕ) (plane : Plane) → is_active at i ≡ false →
    raises at rest (suc n) i plane ≡ raises at rest n (i + 1) plane
raises_pass at rest n i plane e = unless (is_active at i) (Asks plane (raise_asked at i) (after_raise at rest n i plane)) (raises at rest n (i + 1) plane) e

pub raises_ask : (at : Place) (rest : Plane → Course) (n i : ℕ) (plane : Plane) → is_active at i ≡ true →
    raises at rest (suc n) i plane ≡ Asks plane (raise_asked at i) (after_raise at rest n i plane)
raises_ask at rest n i plane e = when (is_active at i) (Asks plane (raise_asked at i) (after_raise at rest n i plane)) (raises at rest n (i + 1) plane) e

-- where no bit is left, so many coefficients are passed
pub raises_none : (at : Place) (rest : Plane → Course) (n m i : ℕ) (plane : Plane) → AreBits (is_active at) n i 0 →
    raises at rest (n + m) i plane ≡ raises at rest m (i + n) plane
raises_none at rest zero m i plane bits =
    let less : 0 + m ≡ m = omega arith in
    let here : i ≡ i + 0 = omega arith in
    ap (λ k. raises at rest k i plane) less ∙ ap (λ k. raises at rest m k plane) here
raises_none at rest (suc n) m i plane bits =
    let first = first_bit (is_active at) n i 0 bits in
    let more : suc n + m ≡ suc (n + m) = omega arith in
    let last : i + 1 + n ≡ i + suc n = omega arith in
    ap (λ k. raises at rest k i plane) more ∙ (raises_pass at rest (n + m) i plane (sym first.0)
    ∙ (raises_none at rest n m (i + 1) plane first.1 ∙ ap (λ k. raises at rest m k plane) last))

-- starts

abbrev pub after_sign : Place → (Plane → Course) → ℕ → ℕ → ℕ → Plane → Bool → Course
after_sign at rest bucket n i plane negative = starts at rest bucket n (i + 1) 0
    (with_coefficient plane at.block i (signed negative (start_size (threshold_at at i))))

abbrev pub after_start : Place → (Plane → Course) → ℕ → ℕ → ℕ → ℕ → Plane → Bool → Course
after_start at rest bucket n i left plane starting =
    if starting then Asks plane Plain (after_sign at rest bucket n i plane) else starts at rest bucket n (i + 1) (left - 1) plane

pub starts_pass : (at : Place) (rest : Plane → Course) (bucket n i left : ℕ) (plane : Plane) → is_unknown at i ≡ false →
    starts at rest bucket (suc n) i left plane ≡ starts at rest bucket n (i + 1) left plane
starts_pass at rest bucket n i left plane e =
    unless (is_unknown at i) (Asks plane (In (start_context at bucket left)) (after_start at rest bucket n i left plane))
    (starts at rest bucket n (i + 1) left plane) e

pub starts_ask : (at : Place) (rest : Plane → Course) (bucket n i left : ℕ) (plane : Plane) → is_unknown at i ≡ true →
    starts at rest bucket (suc n) i left plane ≡ Asks plane (In (start_context at bucket left)) (after_start at rest bucket n i left plane)
starts_ask at rest bucket n i left plane e =
    when (is_unknown at i) (Asks plane (In (start_context at bucket left)) (after_start at rest bucket n i left plane))
    (starts at rest bucket n (i + 1) left plane) e

pub starts_none : (at : Place) (rest : Plane → Course) (bucket n i left : ℕ) (plane : Plane) → AreBits (is_unknown at) n i 0 →
    starts at rest bucket n i left plane ≡ rest plane
starts_none at rest bucket zero i left plane bits = refl
starts_none at rest bucket (suc n) i left plane bits =
    let first = first_bit (is_unknown at) n i 0 bits in
    starts_pass at rest bucket n i left plane (sym first.0) ∙ starts_none at rest bucket n (i + 1) left plane first.1

-- choices

abbrev pub after_choice : Place → (Plane → Course) → ℕ → ℕ → List Bool → Bool → Course
after_choice at rest n bucket chosen bit = choices at rest n (bucket + 1) (chosen ++ bit ∷ [])

pub choices_pass : (at : Place) (rest : Plane → Course) (n bucket : ℕ) (chosen : List Bool) → has_unknown at bucket ≡ false →
    choices at rest (suc n) bucket chosen ≡ choices at rest n (bucket + 1) (chosen ++ false ∷ [])
choices_pass at rest n bucket chosen e =
    unless (has_unknown at bucket) (Asks at.before (In (bucket_context at bucket)) (after_choice at rest n bucket chosen))
    (choices at rest n (bucket + 1) (chosen ++ false ∷ [])) e

pub choices_ask : (at : Place) (rest : Plane → Course) (n bucket : ℕ) (chosen : List Bool) → has_unknown at bucket ≡ true →
    choices at rest (suc n) bucket chosen ≡ Asks at.before (In (bucket_context at bucket)) (after_choice at rest n bucket chosen)
choices_ask at rest n bucket chosen e =
    when (has_unknown at bucket) (Asks at.before (In (bucket_context at bucket)) (after_choice at rest n bucket chosen))
    (choices at rest n (bucket + 1) (chosen ++ false ∷ [])) e

-- the choice of a bucket is kept, and the next bucket comes
pub choice_kept : (at : Place) (rest : Plane → Course) (n first bucket : ℕ) (chosen : List Bool) (bit : Bool) → bucket < length chosen →
    after_choice at rest n (first + bucket) (take bucket chosen) bit ≡ choices at rest n (first + (bucket + 1)) (take (bucket + 1) (set chosen bucket bit))
choice_kept at rest n first bucket chosen bit within =
    let next : first + bucket + 1 ≡ first + (bucket + 1) = omega arith in
    ap (λ (k : ℕ). choices at rest n k (take bucket chosen ++ bit ∷ [])) next
    ∙ ap (λ (bits : List Bool). choices at rest n (first + (bucket + 1)) bits) (sym (take_more_set chosen bucket bit within))

-- from a bucket on

from_by : (at : Place) (rest : Plane → Course) (chosen : List Bool) (bucket : ℕ) (bit : Bool) → count_at at ≤ length chosen → bucket < count_at at →
    get_or chosen bucket false ≡ bit →
    chosen_from at chosen bucket ≡ bit ∷ chosen_from at chosen (bucket + 1)
from_by at rest chosen bucket bit full within e =
    let size = length-take (count_at at) chosen in
    let inside : bucket < length (take (count_at at) chosen) = omega (arith, size) in
    drop_more (take (count_at at) chosen) bucket false inside
    ∙ ap (λ (b : Bool). b ∷ chosen_from at chosen (bucket + 1)) (get_or-take (count_at at) chosen bucket false within ∙ e)

next_bucket : (at : Place) (rest : Plane → Course) (chosen : List Bool) (bucket : ℕ) (plane : Plane) →
    all_starts at (all_raises at rest) (first_at at + bucket + 1) (chosen_from at chosen (bucket + 1)) plane ≡ from_bucket at rest chosen (bucket + 1) plane
next_bucket at rest chosen bucket plane =
    let next : first_at at + bucket + 1 ≡ first_at at + (bucket + 1) = omega arith in
    ap (λ (k : ℕ). all_starts at (all_raises at rest) k (chosen_from at chosen (bucket + 1)) plane) next

pub bucket_left_out : (at : Place) (rest : Plane → Course) (chosen : List Bool) (bucket : ℕ) (plane : Plane) → count_at at ≤ length chosen →
    bucket < count_at at →
    get_or chosen bucket false ≡ false → from_bucket at rest chosen bucket plane ≡ from_bucket at rest chosen (bucket + 1) plane
bucket_left_out at rest chosen bucket plane full within e =
    ap (λ (bits : List Bool). all_starts at (all_raises at rest) (first_at at + bucket) bits plane) (from_by at rest chosen bucket false full within e)
    ∙ next_bucket at rest chosen bucket plane

pub bucket_starts : (at : Place) (rest : Plane → Course) (chosen : List Bool) (bucket : ℕ) (plane : Plane) → count_at at ≤ length chosen →
    bucket < count_at at →
    get_or chosen bucket false ≡ true →
    from_bucket at rest chosen bucket plane
    ≡ starts at (from_bucket at rest chosen (bucket + 1)) (first_at at + bucket) 16 (16 * (first_at at + bucket)) (unknowns at (first_at at + bucket)) plane
bucket_starts at rest chosen bucket plane full within e =
    let next : first_at at + bucket + 1 ≡ first_at at + (bucket + 1) = omega arith in
    ap (λ (bits : List Bool). all_starts at (all_raises at rest) (first_at at + bucket) bits plane) (from_by at rest chosen bucket true full within e)
    ∙ ap (λ (k : ℕ). starts at (all_starts at (all_raises at rest) k (chosen_from at chosen (bucket + 1))) (first_at at + bucket) 16
    (16 * (first_at at + bucket))
    (unknowns at (first_at at + bucket)) plane) next

pub buckets_end : (at : Place) (rest : Plane → Course) (chosen : List Bool) (bucket : ℕ) (plane : Plane) → count_at at ≤ bucket →
    from_bucket at rest chosen bucket plane ≡ all_raises at rest plane
buckets_end at rest chosen bucket plane all =
    let size = length-take (count_at at) chosen in
    let past : length (take (count_at at) chosen) ≤ bucket = omega (arith, size) in
    ap (λ (bits : List Bool). all_starts at (all_raises at rest) (first_at at + bucket) bits plane) (drop_all bucket (take (count_at at) chosen) past)

-- blocks

abbrev pub later_from : ℕ → ℕ → ℕ → Plane → Course
later_from slice count block after = blocks_course slice (count - (block + 1)) (block + 1) after

pub block_first : (slice count block : ℕ) (plane : Plane) → block < count →
    blocks_course slice (count - block) block plane ≡ block_course (place_at slice block plane) (later_from slice count block)
block_first slice count block plane within =
    let more : count - block ≡ suc (count - (block + 1)) = omega arith in
    ap (λ (n : ℕ). blocks_course slice n block plane) more

pub blocks_end : (slice count block : ℕ) (plane : Plane) → count ≤ block → blocks_course slice (count - block) block plane ≡ Ended plane
blocks_end slice count block plane all =
    let none : count - block ≡ 0 = omega arith in
    ap (λ (n : ℕ). blocks_course slice n block plane) none

pub with_root : (at : Place) (rest : Plane → Course) → ((bucket_count (band_of at.slice) == 16) && not (is_active_band at)) ≡ true →
    block_course at rest ≡ Asks at.before (In Root) (λ bit. if bit then all_choices at rest else rest at.before)
with_root at rest e =
    when ((bucket_count (band_of at.slice) == 16) && not (is_active_band at))
    (Asks at.before (In Root) (λ bit. if bit then all_choices at rest else rest at.before)) (all_choices at rest) e

pub without_root : (at : Place) (rest : Plane → Course) → ((bucket_count (band_of at.slice) == 16) && not (is_active_band at)) ≡ false →
    block_course at rest ≡ all_choices at rest
without_root at rest e =
    unless ((bucket_count (band_of at.slice) == 16) && not (is_active_band at))
    (Asks at.before (In Root) (λ bit. if bit then all_choices at rest else rest at.before)) (all_choices at rest) e

-- a coefficient that starts has its sign next
pub sign_next : (at : Place) (rest : Plane → Course) (bucket n i left : ℕ) (plane : Plane) →
    after_start at rest bucket n i left plane true ≡ Asks plane Plain (after_sign at rest bucket n i plane)
sign_next at rest bucket n i left plane = refl
