-- How a reader's next decision is read.
use Rattle.std.proofs.Common.{◌≡◌, ℕ, zero, suc, ◌+◌, ◌-◌, ◌*◌, ◌%◌, ◌<◌, ◌≤◌, Bool, true, false, ◌&&◌, get_or, take, min, refl, ap, sym, ◌∙◌}
use Rattle.std.proofs.Common.{subst, arith, unsigned_abs, eqb-true}
use Rattle.std.specs.Prelude.{◌==◌, not, nat_lt, if◌then◌else◌}
use Rattle.std.proofs.lemmas.Bool.{lt-ltb}
use Rattle.std.proofs.lemmas.Bool.Decides.{nat_tests}
use Rattle.iw44_blocks.specs.Plane.{Plane, block_count, coefficient}
use Rattle.iw44_slices.specs.Bands.{band_of, bucket_count, threshold, is_in_use}
use Rattle.iw44_slices.specs.Contexts.{Bucket, Start, Mantissa}
use Rattle.iw44_slices.specs.Slice.{Place, Asked, In, Plain, Course, Ended, Asks, is_active, is_unknown, is_active_band, is_active_bucket}
use Rattle.iw44_blocks.specs.Words.{is_zero}
use Rattle.iw44_slices.specs.Slice.{before_at, threshold_at, parents, parents_in, bucket_context, start_context, raise_asked, is_large, choices, starts}
use Rattle.iw44_slices.specs.Slice.{raises}
use Rattle.iw44_slices.specs.Kept.{number_of, Names}
use Rattle.iw44_slices.specs.Reader.{place_in, first_at, count_at, later_blocks, from_bucket, LeftAt, Left}
use Rattle.iw44_slices.specs.Moves.{is_settled, IsAsked}
use Rattle.iw44_slices.specs.declared.contexts.Question.{Question}
use Rattle.iw44_slices.specs.declared.contexts.Question.TheVariants as question
use Rattle.iw44_slices.specs.declared.spots.Spot.{Spot}
use Rattle.iw44_slices.specs.declared.spots.Stage.TheVariants as stage
use Rattle.iw44_slices.proofs.Bits.{some_is, some_one}
use Rattle.iw44_slices.proofs.Passing.{passed}
use Rattle.iw44_slices.proofs.Skipping.{choices_ask, after_choice, starts_ask, raises_ask, after_raise}
use Rattle.iw44_slices.proofs.Passing.{raises_more}
use Rattle.iw44_slices.proofs.Standing.{stands_at, settled_at}

-- a course that asks
asks_is : (course other : Course) (q : Question) → course ≡ other → IsAsked other q → IsAsked course q
asks_is course other q e is = subst (λ (c : Course). IsAsked c q) (sym e) is

pub root_asked : (slice : ℕ) (course : Course) (plane : Plane) (spot : Spot) → spot.stage ≡ stage.Root → Left slice course plane spot →
    IsAsked course (question.In 0)
root_asked slice course plane spot e left =
    let is = stands_at stage.Root slice course plane spot e left in
    asks_is course _ (question.In 0) is.1.is (refl, omega arith)

pub sign_asked : (slice : ℕ) (course : Course) (plane : Plane) (spot : Spot) → spot.stage ≡ stage.Sign → Left slice course plane spot →
    IsAsked course question.Plain
sign_asked slice course plane spot e left =
    let is = stands_at stage.Sign slice course plane spot e left in
    asks_is course _ question.Plain is.1.1.is tt

-- numbers of contexts

both_true : (a b : Bool) → a ≡ true → b ≡ true → (a && b) ≡ true
both_true true b first second = second
both_true false b first second = cc

number_if : (t : Bool) (a b : ℕ) → t ≡ true → (if t then a else b) ≡ a
number_if true a b e = refl
number_if false a b e = cc

bucket_number : (band number : ℕ) → band < 10 → number < 8 → number_of (Bucket band number) ≡ 18 + 8 * band + number
bucket_number band number low few =
    number_if (nat_lt band 10 && nat_lt number 8) (18 + 8 * band + number) 98
    (both_true (nat_lt band 10) (nat_lt number 8) (lt-ltb band 10 low) (lt-ltb number 8 few))

start_number : (number : ℕ) → number < 16 → number_of (Start number) ≡ 2 + number
start_number number few = number_if (nat_lt number 16) (2 + number) 98 (lt-ltb number 16 few)

-- a number below four, and four where something is active
up_to_seven : (few : ℕ) (is : Bool) → few ≤ 3 → few + (if is then 4 else 0) < 8
up_to_seven few true low = omega arith
up_to_seven few false low = omega arith

up_to_fifteen : (few : ℕ) (is : Bool) → min 7 few + (if is then 8 else 0) < 16
up_to_fifteen few true = omega arith
up_to_fifteen few false = omega arith

-- a bucket with an unknown coefficient
open_bucket : (bucket count word : ℕ) → (nat_lt bucket count && not (word == 0)) ≡ true → (bucket < count) × (0 < word)
open_bucket bucket count word e = (grind (arith, nat_tests), grind (arith, nat_tests))

pub bucket_open : (spot : Spot) → spot.stage ≡ stage.Bucket → is_settled spot ≡ true →
    (spot.bucket < bucket_count (band_of spot.number)) × (0 < get_or spot.unknown spot.bucket 0)
bucket_open spot e settled = open_bucket spot.bucket (bucket_count (band_of spot.number)) (get_or spot.unknown spot.bucket 0)
    (settled_at stage.Bucket spot true e settled)

-- the choices that are left from a bucket with an unknown coefficient on
pub bucket_course : (slice : ℕ) (course : Course) (plane : Plane) (spot : Spot) → spot.stage ≡ stage.Bucket → is_settled spot ≡ true →
    Left slice course plane spot →
    course ≡ Asks plane (In (bucket_context (place_in plane spot) (first_at (place_in plane spot) + spot.bucket)))
    (after_choice (place_in plane spot) (later_blocks plane spot) (count_at (place_in plane spot) - (spot.bucket + 1))
    (first_at (place_in plane spot) + spot.bucket) (take spot.bucket spot.chosen))
bucket_course slice course plane spot e settled left =
    let is = stands_at stage.Bucket slice course plane spot e left in
    let at : Place = place_in plane spot in
    let some = bucket_open spot e settled in
    let within = some.0 in
    let more : count_at at - spot.bucket ≡ suc (count_at at - (spot.bucket + 1)) = omega arith in
    is.1.is ∙ (ap (λ (n : ℕ). choices at (later_blocks plane spot) n (first_at at + spot.bucket) (take spot.bucket spot.chosen)) more
    ∙ choices_ask at (later_blocks plane spot) (count_at at - (spot.bucket + 1)) (first_at at + spot.bucket) (take spot.bucket spot.chosen)
    (some_one (is_unknown at) 16 (16 * (first_at at + spot.bucket)) (get_or spot.unknown spot.bucket 0) (is.0.marks.unknown spot.bucket within) some.1))

pub bucket_asked : (slice : ℕ) (course : Course) (plane : Plane) (spot : Spot) (near number : ℕ) → spot.stage ≡ stage.Bucket → is_settled spot ≡ true →
    near ≤ 3 →
    near ≡ parents_in (band_of spot.number) (place_in plane spot) (first_at (place_in plane spot) + spot.bucket) →
    number ≡ 18 + 8 * band_of spot.number + (near + (if spot.is_active then 4 else 0)) → Left slice course plane spot → IsAsked course (question.In number)
bucket_asked slice course plane spot near number e settled few near_is number_is left =
    let is = stands_at stage.Bucket slice course plane spot e left in
    let at : Place = place_in plane spot in
    let low : band_of spot.number < 10 = omega arith in
    let value = up_to_seven near spot.is_active few in
    let same : bucket_context at (first_at at + spot.bucket) ≡ Bucket (band_of spot.number) (near + (if spot.is_active then 4 else 0)) =
    ap (λ (n : ℕ). Bucket (band_of spot.number) (n + (if is_active_band at then 4 else 0))) (sym near_is)
    ∙ ap (λ (b : Bool). Bucket (band_of spot.number) (near + (if b then 4 else 0))) (sym is.0.marks.activity) in
    let named = ap number_of same ∙ bucket_number (band_of spot.number) (near + (if spot.is_active then 4 else 0)) low value in
    asks_is course _ (question.In number) (bucket_course slice course plane spot e settled left) (named ∙ sym number_is, omega arith)

-- a coefficient that may start

odd_bit : (word : ℕ) → (word % 2 == 1) ≡ true → 0 < word
odd_bit word e = let odd = eqb-true (word % 2) 1 e in omega arith

pub start_odd : (spot : Spot) → spot.stage ≡ stage.Start → is_settled spot ≡ true → ((spot.word % 2 == 1) ≡ true) × (0 < spot.word)
start_odd spot e settled = let odd = settled_at stage.Start spot true e settled in (odd, odd_bit spot.word odd)

pub raise_odd : (spot : Spot) → spot.stage ≡ stage.Raise → is_settled spot ≡ true → ((spot.word % 2 == 1) ≡ true) × (0 < spot.word)
raise_odd spot e settled = let odd = settled_at stage.Raise spot true e settled in (odd, odd_bit spot.word odd)

pub start_asked : (slice : ℕ) (course : Course) (plane : Plane) (spot : Spot) (number : ℕ) → spot.stage ≡ stage.Start → is_settled spot ≡ true →
    number ≡ 2 + (min 7 spot.left + (if not (get_or spot.active spot.bucket 0 == 0) then 8 else 0)) → Left slice course plane spot →
    IsAsked course (question.In number)
start_asked slice course plane spot number e settled number_is left =
    let is = stands_at stage.Start slice course plane spot e left in
    let at : Place = place_in is.0 spot in
    let now = is.1.1 in
    let odd = start_odd spot e settled in
    let next = passed at (is_unknown at) now.count spot.bucket spot.index spot.word odd.1 now.here in
    let later = from_bucket at (later_blocks plane spot) spot.chosen (spot.bucket + 1) in
    let unknown : is_unknown at spot.index ≡ true = sym next.first ∙ odd.0 in
    let active : is_active_bucket at (first_at at + spot.bucket) ≡ not (get_or spot.active spot.bucket 0 == 0) =
    some_is (is_active at) 16 (16 * (first_at at + spot.bucket)) (get_or spot.active spot.bucket 0) (is.1.0.marks.active spot.bucket now.here.within) in
    let value = up_to_fifteen spot.left (not (get_or spot.active spot.bucket 0 == 0)) in
    let named : number_of (start_context at (first_at at + spot.bucket) spot.left) ≡ 2 +
    (min 7 spot.left + (if not (get_or spot.active spot.bucket 0 == 0) then 8 else 0)) =
    ap (λ (b : Bool). number_of (Start (min 7 spot.left + (if b then 8 else 0)))) active
    ∙ start_number (min 7 spot.left + (if not (get_or spot.active spot.bucket 0 == 0) then 8 else 0)) value in
    asks_is course _ (question.In number)
    (now.is ∙ (ap (λ (n : ℕ). starts at later (first_at at + spot.bucket) n spot.index spot.left plane) next.one
    ∙ starts_ask at later (first_at at + spot.bucket) next.less spot.index spot.left plane unknown))
    (named ∙ sym number_is, omega arith)

-- a coefficient that is raised

pub raise_active : (slice : ℕ) (course : Course) (plane : Plane) (spot : Spot) → spot.stage ≡ stage.Raise → is_settled spot ≡ true →
    (is : LeftAt stage.Raise slice course plane spot) →
    is_active (place_in is.0 spot) spot.index ≡ true
raise_active slice course plane spot e settled is =
    let at : Place = place_in is.0 spot in
    let odd = raise_odd spot e settled in
    let next = passed at (is_active at) is.1.1.count spot.bucket spot.index spot.word odd.1 is.1.1.here in
    sym next.first ∙ odd.0

pub raise_course : (slice : ℕ) (course : Course) (plane : Plane) (spot : Spot) → spot.stage ≡ stage.Raise → is_settled spot ≡ true →
    (is : LeftAt stage.Raise slice course plane spot) →
    course ≡ Asks plane (raise_asked (place_in is.0 spot) spot.index)
    (after_raise (place_in is.0 spot) (later_blocks plane spot) (16 * first_at (place_in is.0 spot) + 16 * count_at (place_in is.0 spot) - (spot.index + 1))
    spot.index plane)
raise_course slice course plane spot e settled is =
    let at : Place = place_in is.0 spot in
    let now = is.1.1 in
    let odd = raise_odd spot e settled in
    let next = passed at (is_active at) now.count spot.bucket spot.index spot.word odd.1 now.here in
    let more = raises_more at (is_active at) now.count next.less spot.bucket spot.index spot.word next.one now.here in
    now.is ∙ (ap (λ (n : ℕ). raises at (later_blocks plane spot) n spot.index plane) more
    ∙ raises_ask at (later_blocks plane spot) (16 * first_at at + 16 * count_at at - (spot.index + 1)) spot.index plane
    (raise_active slice course plane spot e settled is))

pub in_use : (t : ℕ) (other : Bool) → (is_in_use t && other) ≡ true → t < 0x8000
in_use t other e = grind (arith, nat_tests)

pub raise_used : (slice : ℕ) (course : Course) (plane : Plane) (spot : Spot) → spot.stage ≡ stage.Raise → is_settled spot ≡ true →
    Left slice course plane spot →
    threshold spot.number spot.index < 0x8000
raise_used slice course plane spot e settled left =
    let is = stands_at stage.Raise slice course plane spot e left in
    in_use (threshold spot.number spot.index) (not (is_zero (before_at (place_in is.0 spot) spot.index))) (raise_active slice course plane spot e settled is)

names_large : (asked : Asked) (large : Bool) → asked ≡ (if large then Plain else In Mantissa) → large ≡ true → Names asked question.Plain
names_large asked large is e = subst (λ (a : Asked). Names a question.Plain) (sym (is ∙ ap (λ (b : Bool). if b then Plain else In Mantissa) e)) tt

names_small : (asked : Asked) (large : Bool) → asked ≡ (if large then Plain else In Mantissa) → large ≡ false → Names asked (question.In 1)
names_small asked large is e = subst (λ (a : Asked). Names a (question.In 1)) (sym (is ∙ ap (λ (b : Bool). if b then Plain else In Mantissa) e))
    (refl, omega arith)

-- how it is read, by the coefficient as it is
by_size : (at : Place) (plane : Plane) (index : ℕ) → coefficient plane at.block index ≡ before_at at index →
    raise_asked at index ≡ (if is_large (threshold_at at index) (unsigned_abs (coefficient plane at.block index)) then Plain else In Mantissa)
by_size at plane index e = ap (λ v. if is_large (threshold_at at index) (unsigned_abs v) then Plain else In Mantissa) (sym e)

pub raise_large : (slice : ℕ) (course : Course) (plane : Plane) (spot : Spot) → spot.stage ≡ stage.Raise → is_settled spot ≡ true →
    is_large (threshold spot.number spot.index) (unsigned_abs (coefficient plane spot.block spot.index)) ≡ true → Left slice course plane spot →
    IsAsked course question.Plain
raise_large slice course plane spot e settled large left =
    let is = stands_at stage.Raise slice course plane spot e left in
    let at : Place = place_in is.0 spot in
    let same = is.1.1.before spot.index (omega arith) (raise_active slice course plane spot e settled is) in
    asks_is course _ question.Plain (raise_course slice course plane spot e settled is)
    (names_large (raise_asked at spot.index) (is_large (threshold spot.number spot.index) (unsigned_abs (coefficient plane spot.block spot.index)))
    (by_size at plane spot.index same) large)

pub raise_small : (slice : ℕ) (course : Course) (plane : Plane) (spot : Spot) → spot.stage ≡ stage.Raise → is_settled spot ≡ true →
    is_large (threshold spot.number spot.index) (unsigned_abs (coefficient plane spot.block spot.index)) ≡ false → Left slice course plane spot →
    IsAsked course (question.In 1)
raise_small slice course plane spot e settled large left =
    let is = stands_at stage.Raise slice course plane spot e left in
    let at : Place = place_in is.0 spot in
    let same = is.1.1.before spot.index (omega arith) (raise_active slice course plane spot e settled is) in
    asks_is course _ (question.In 1) (raise_course slice course plane spot e settled is)
    (names_small (raise_asked at spot.index) (is_large (threshold spot.number spot.index) (unsigned_abs (coefficient plane spot.block spot.index)))
    (by_size at plane spot.index same) large)

-- nothing is left
pub end_next : (slice : ℕ) (course : Course) (plane : Plane) (spot : Spot) → spot.stage ≡ stage.End → Left slice course plane spot →
    (p : Plane) × (course ≡ Ended p)
end_next slice course plane spot e left = (plane, (stands_at stage.End slice course plane spot e left).is)

pub some_parents : (band : ℕ) (at : Place) (bucket : ℕ) → 0 < band → parents_in band at bucket ≡ min 3 (parents at bucket)
some_parents zero at bucket some = absurd (omega arith)
some_parents (suc band) at bucket some = refl

-- where a reader stands at the decision of a bucket
pub bucket_block : (slice : ℕ) (course : Course) (plane : Plane) (spot : Spot) → spot.stage ≡ stage.Bucket → Left slice course plane spot →
    spot.block < block_count plane
bucket_block slice course plane spot e left = (stands_at stage.Bucket slice course plane spot e left).0.block
