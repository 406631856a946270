-- How a bit moves a reader.
use Rattle.std.proofs.Common.{◌≡◌, ◌≢◌, ℕ, suc, ◌+◌, ◌-◌, ◌*◌, ◌/◌, ◌<◌, ◌≤◌, Bool, true, false, ◌&&◌, set, take, length, ℤ, pos}
use Rattle.std.proofs.Common.{refl, ap, sym, ◌∙◌, subst, arith, unsigned_abs}
use Rattle.std.specs.Prelude.{not}
use Rattle.std.proofs.lemmas.List.{get_or-set_same, get_or-set_other}
use Rattle.iw44_blocks.specs.Plane.{Plane, IsPlane, IsSmall, block_count, coefficient, with_coefficient}
use Rattle.iw44_slices.specs.Bands.{band_of, bucket_count, threshold, is_in_use}
use Rattle.iw44_slices.specs.Slice.{Place, Asked, In, Plain, Course, Asks, is_active, is_unknown, is_negative, before_at, threshold_at}
use Rattle.iw44_blocks.specs.Words.{is_zero}
use Rattle.iw44_slices.specs.Slice.{start_size, signed, raised, raised_value, raise_asked, bucket_context, start_context, starts}
use Rattle.iw44_slices.specs.Slice.{raises}
use Rattle.iw44_slices.specs.Reading.{plane_of}
use Rattle.iw44_slices.specs.Reader.{place_in, first_at, count_at, later_blocks, from_bucket, InBlock, InBucket, AreAsBefore}
use Rattle.iw44_slices.specs.Reader.{LeftAt, Left, StaySmall}
use Rattle.iw44_slices.specs.Moves.{is_settled, after_bit}
use Rattle.iw44_slices.specs.declared.spots.Spot.{Spot}
use Rattle.iw44_slices.specs.declared.spots.Stage.TheVariants as stage
use Rattle.iw44_slices.proofs.Sizes.{abs_signed}
use Rattle.iw44_slices.proofs.Bits.{first_bit}
use Rattle.iw44_slices.proofs.Passing.{passed}
use Rattle.iw44_slices.proofs.Skipping.{choice_kept, after_choice, starts_ask, after_start, after_sign, after_raise, sign_next}
use Rattle.iw44_slices.proofs.Standing.{stands_at, stands_as, choices_first}
use Rattle.iw44_slices.proofs.Telling.{starts_tell, raises_tell, from_tells, later_tell, stays_small}
use Rattle.iw44_slices.proofs.Naming.{bucket_course, start_odd, raise_odd, raise_active, raise_course, in_use}

-- what is left after a bit
after_is : (course : Course) (plane : Plane) (asked : Asked) (next : Bool → Course) (bit : Bool) → course ≡ Asks plane asked next →
    after_bit course bit ≡ next bit
after_is course plane asked next bit e = ap (λ (c : Course). after_bit c bit) e

-- the root

pub root_goes_on : (slice : ℕ) (course : Course) (plane : Plane) (spot : Spot) → spot.stage ≡ stage.Root → Left slice course plane spot →
    Left slice (after_bit course true) plane (record spot { stage = stage.Bucket; bucket = 0 })
unfolding Left
root_goes_on slice course plane spot e left =
    let is = stands_at stage.Root slice course plane spot e left in (
      is.0,
      record {
        within = omega arith;
        is = after_is course plane _ _ true is.1.is ∙ choices_first (place_in plane spot) (later_blocks plane spot) spot.chosen;
      },
    )

pub root_ends : (slice : ℕ) (course : Course) (plane : Plane) (spot : Spot) → spot.stage ≡ stage.Root → Left slice course plane spot →
    Left slice (after_bit course false) plane (record spot { stage = stage.Block; block = spot.block + 1 })
unfolding Left
root_ends slice course plane spot e left =
    let is = stands_at stage.Root slice course plane spot e left in
    let inside = is.0.block in
    record { same = is.0.number; used = is.0.used; within = omega arith; is = after_is course plane _ _ false is.1.is }

pub root_block : (slice : ℕ) (course : Course) (plane : Plane) (spot : Spot) → spot.stage ≡ stage.Root → Left slice course plane spot →
    spot.block < block_count plane
root_block slice course plane spot e left = (stands_at stage.Root slice course plane spot e left).0.block

-- a bucket

pub bucket_moves : (slice : ℕ) (course : Course) (plane : Plane) (spot : Spot) (bit : Bool) → spot.stage ≡ stage.Bucket → is_settled spot ≡ true →
    spot.bucket < bucket_count (band_of spot.number) →
    spot.bucket < length spot.chosen → Left slice course plane spot →
    Left slice (after_bit course bit) plane (record spot { chosen = set spot.chosen spot.bucket bit; bucket = spot.bucket + 1 })
bucket_moves slice course plane spot bit e settled within size left =
    let is = stands_at stage.Bucket slice course plane spot e left in
    let at : Place = place_in plane spot in
    stands_as stage.Bucket slice (after_bit course bit) plane (record spot { chosen = set spot.chosen spot.bucket bit; bucket = spot.bucket + 1 }) e (
      is.0,
      record {
        within = omega arith;
        is = after_is course plane (In (bucket_context at (first_at at + spot.bucket)))
            (after_choice at (later_blocks plane spot) (count_at at - (spot.bucket + 1)) (first_at at + spot.bucket) (take spot.bucket spot.chosen)) bit
            (bucket_course slice course plane spot e settled left)
            ∙ choice_kept at (later_blocks plane spot) (count_at at - (spot.bucket + 1)) (first_at at) spot.bucket spot.chosen bit size;
      },
    )

-- a coefficient that may start

start_course : (slice : ℕ) (course : Course) (plane : Plane) (spot : Spot) → (is : LeftAt stage.Start slice course plane spot) (less : ℕ) →
    is.1.1.count ≡ suc less →
    is_unknown (place_in is.0 spot) spot.index ≡ true →
    course ≡ Asks plane (In (start_context (place_in is.0 spot) (first_at (place_in is.0 spot) + spot.bucket) spot.left))
    (after_start (place_in is.0 spot) (from_bucket (place_in is.0 spot) (later_blocks plane spot) spot.chosen (spot.bucket + 1))
    (first_at (place_in is.0 spot) + spot.bucket) less spot.index spot.left plane)
start_course slice course plane spot is less one unknown =
    let at : Place = place_in is.0 spot in
    let later = from_bucket at (later_blocks plane spot) spot.chosen (spot.bucket + 1) in
    is.1.1.is ∙ (ap (λ (n : ℕ). starts at later (first_at at + spot.bucket) n spot.index spot.left plane) one
    ∙ starts_ask at later (first_at at + spot.bucket) less spot.index spot.left plane unknown)

pub start_stays : (slice : ℕ) (course : Course) (plane : Plane) (spot : Spot) → spot.stage ≡ stage.Start → is_settled spot ≡ true →
    Left slice course plane spot →
    Left slice (after_bit course false) plane (record spot { word = spot.word / 2; index = spot.index + 1; left = spot.left - 1 })
start_stays slice course plane spot e settled left =
    let is = stands_at stage.Start slice course plane spot e left in
    let at : Place = place_in is.0 spot in
    let now = is.1.1 in
    let odd = start_odd spot e settled in
    let next = passed at (is_unknown at) now.count spot.bucket spot.index spot.word odd.1 now.here in
    let later = from_bucket at (later_blocks plane spot) spot.chosen (spot.bucket + 1) in
    stands_as stage.Start slice (after_bit course false) plane (record spot { word = spot.word / 2; index = spot.index + 1; left = spot.left - 1 }) e (
      is.0,
      (
        is.1.0,
        record {
          count = next.less;
          here = next.later;
          before = now.before;
          is = after_is course plane (In (start_context at (first_at at + spot.bucket) spot.left))
              (after_start at later (first_at at + spot.bucket) next.less spot.index spot.left plane) false
              (start_course slice course plane spot is next.less next.one (sym next.first ∙ odd.0));
        },
      ),
    )

sign_stands : (slice : ℕ) (course : Course) (plane before : Plane) (spot : Spot) (less : ℕ) → InBlock slice before plane spot →
    InBucket (place_in before spot) (is_unknown (place_in before spot)) (suc less) spot.bucket spot.index spot.word →
    is_unknown (place_in before spot) spot.index ≡ true →
    AreAsBefore (place_in before spot) plane (16 * first_at (place_in before spot)) →
    course ≡ Asks plane Plain
    (after_sign (place_in before spot) (from_bucket (place_in before spot) (later_blocks plane spot) spot.chosen (spot.bucket + 1))
    (first_at (place_in before spot) + spot.bucket) less spot.index plane) →
    LeftAt stage.Sign slice course plane spot
sign_stands slice course plane before spot less block here unknown same is =
    (before, (block, record { count = less; here = here; unknown = unknown; before = same; is = is }))

pub start_begins : (slice : ℕ) (course : Course) (plane : Plane) (spot : Spot) → spot.stage ≡ stage.Start → is_settled spot ≡ true →
    Left slice course plane spot →
    Left slice (after_bit course true) plane (record spot { stage = stage.Sign })
start_begins slice course plane spot e settled left =
    let is = stands_at stage.Start slice course plane spot e left in
    let at : Place = place_in is.0 spot in
    let now = is.1.1 in
    let odd = start_odd spot e settled in
    let next = passed at (is_unknown at) now.count spot.bucket spot.index spot.word odd.1 now.here in
    let later = from_bucket at (later_blocks plane spot) spot.chosen (spot.bucket + 1) in
    let unknown : is_unknown at spot.index ≡ true = sym next.first ∙ odd.0 in
    let first = after_is course plane (In (start_context at (first_at at + spot.bucket) spot.left))
    (after_start at later (first_at at + spot.bucket) next.less spot.index spot.left plane) true
    (start_course slice course plane spot is next.less next.one unknown) in
    stands_as stage.Sign slice (after_bit course true) plane (record spot { stage = stage.Sign }) refl
    (sign_stands slice (after_bit course true) plane is.0 (record spot { stage = stage.Sign }) next.less is.1.0
    (subst (λ (n : ℕ). InBucket at (is_unknown at) n spot.bucket spot.index spot.word) next.one now.here) unknown now.before
    (first ∙ sign_next at later (first_at at + spot.bucket) next.less spot.index spot.left plane))

-- coefficients that change

changed_value : (plane : Plane) (block index : ℕ) (value : ℤ) → IsPlane plane → block < block_count plane → index < 1024 →
    coefficient (with_coefficient plane block index value) block index ≡ value
changed_value plane block index value full within low =
    let size = full.full in
    let inside : 1024 * block + index < length plane.numbers = omega arith in
    get_or-set_same plane.numbers (1024 * block + index) value (pos 0) inside

other_stays : (plane : Plane) (block index other : ℕ) (value : ℤ) → other ≢ index →
    coefficient (with_coefficient plane block index value) block other ≡ coefficient plane block other
other_stays plane block index other value apart =
    get_or-set_other plane.numbers (1024 * block + index) (1024 * block + other) value (pos 0) (λ e. apart (omega arith))

small_value : (plane : Plane) (block index : ℕ) (value : ℤ) → IsPlane plane → block < block_count plane → index < 1024 →
    IsSmall 32767 (with_coefficient plane block index value) →
    unsigned_abs value ≤ 32767
small_value plane block index value full within low small =
    subst (λ (v : ℤ). unsigned_abs v ≤ 32767) (changed_value plane block index value full within low) (small block index within low)

-- what is left after a bit stays small
next_small : (slice : ℕ) (course : Course) (plane after : Plane) (asked : Asked) (next : Bool → Course) (bit : Bool) → course ≡ Asks plane asked next →
    plane_of (next bit) ≡ after → StaySmall slice course →
    IsSmall 32767 after
next_small slice course plane after asked next bit e tells along =
    let whole : StaySmall slice (Asks plane asked next) = subst (StaySmall slice) e along in
    subst (IsSmall 32767) tells (stays_small slice (next bit) (whole.1 bit))

-- active and unknown coefficients are others
apart_by : (used zero' : Bool) → (used && not zero') ≡ true → (used && zero') ≡ true → ⊥
apart_by true true active unknown = cc
apart_by true false active unknown = cc
apart_by false zero' active unknown = cc

apart : (at : Place) (i m : ℕ) → is_active at m ≡ true → is_unknown at i ≡ true → m ≢ i
apart at i m active unknown same =
    apart_by (is_in_use (threshold_at at i)) (is_zero (before_at at i)) (subst (λ (n : ℕ). is_active at n ≡ true) same active) unknown

-- the coefficients behind one that starts
sign_later : (at : Place) (count bucket index word : ℕ) → InBucket at (is_unknown at) (suc count) bucket index word →
    InBucket at (is_unknown at) count bucket (index + 1) (word / 2)
sign_later at count bucket index word here =
    let bits = first_bit (is_unknown at) count index word here.bits in
    let rest = here.rest in
    let low = here.low in
    record { within = here.within; rest = omega arith; low = omega arith; bits = bits.1 }

-- a sign

pub sign_moves : (slice : ℕ) (course : Course) (plane : Plane) (spot : Spot) (bit : Bool) (value : ℤ) → spot.stage ≡ stage.Sign →
    value ≡ signed bit (start_size (threshold spot.number spot.index)) →
    Left slice course plane spot →
    Left slice (after_bit course bit) (with_coefficient plane spot.block spot.index value)
    (record spot { stage = stage.Start; word = spot.word / 2; index = spot.index + 1; left = 0 })
unfolding Left
sign_moves slice course plane spot bit value e value_is left =
    let is = stands_at stage.Sign slice course plane spot e left in
    let at : Place = place_in is.0 spot in
    let now = is.1.1 in
    let later = from_bucket at (later_blocks plane spot) spot.chosen (spot.bucket + 1) in
    let here = sign_later at now.count spot.bucket spot.index spot.word now.here in (
      is.0,
      (
        is.1.0,
        record {
          count = now.count;
          here = here;
          before = λ index low active. other_stays plane spot.block spot.index index value (apart at spot.index index active now.unknown)
              ∙ now.before index low active;
          is = after_is course plane Plain (after_sign at later (first_at at + spot.bucket) now.count spot.index plane) bit now.is
              ∙ ap (λ (v : ℤ). starts at later (first_at at + spot.bucket) now.count (spot.index + 1) 0 (with_coefficient plane spot.block spot.index v))
              (sym value_is);
        },
      ),
    )

pub sign_used : (slice : ℕ) (course : Course) (plane : Plane) (spot : Spot) → spot.stage ≡ stage.Sign → Left slice course plane spot →
    threshold spot.number spot.index < 0x8000
sign_used slice course plane spot e left =
    let is = stands_at stage.Sign slice course plane spot e left in
    in_use (threshold spot.number spot.index) (is_zero (before_at (place_in is.0 spot) spot.index)) is.1.1.unknown

pub sign_fits : (slice : ℕ) (course : Course) (plane : Plane) (spot : Spot) (bit : Bool) → spot.stage ≡ stage.Sign → IsPlane plane → spot.index < 1024 →
    Left slice course plane spot → StaySmall slice course →
    start_size (threshold spot.number spot.index) ≤ 32767
sign_fits slice course plane spot bit e full low left along =
    let is = stands_at stage.Sign slice course plane spot e left in
    let at : Place = place_in is.0 spot in
    let now = is.1.1 in
    let later = from_bucket at (later_blocks plane spot) spot.chosen (spot.bucket + 1) in
    let value : ℤ = signed bit (start_size (threshold spot.number spot.index)) in
    let small : IsSmall 32767 (with_coefficient plane spot.block spot.index value) =
    next_small slice course plane (with_coefficient plane spot.block spot.index value) Plain
    (after_sign at later (first_at at + spot.bucket) now.count spot.index plane) bit now.is
    (starts_tell at later (first_at at + spot.bucket) now.count (spot.index + 1) 0 (with_coefficient plane spot.block spot.index value)
    (from_tells at plane spot (spot.bucket + 1))) along in
    subst (λ (n : ℕ). n ≤ 32767) (abs_signed bit (start_size (threshold spot.number spot.index)))
    (small_value plane spot.block spot.index value full is.1.0.block low small)

-- a raise

raised_as : (at : Place) (plane : Plane) (index : ℕ) (bit : Bool) → coefficient plane at.block index ≡ before_at at index →
    raised_value at index bit ≡ signed (is_negative (coefficient plane at.block index))
    (raised (threshold_at at index) (unsigned_abs (coefficient plane at.block index)) bit)
raised_as at plane index bit e = ap (λ (v : ℤ). signed (is_negative v) (raised (threshold_at at index) (unsigned_abs v) bit)) (sym e)

pub raise_moves : (slice : ℕ) (course : Course) (plane : Plane) (spot : Spot) (bit : Bool) (value : ℤ) → spot.stage ≡ stage.Raise → is_settled spot ≡ true →
    value ≡ signed (is_negative (coefficient plane spot.block spot.index))
    (raised (threshold spot.number spot.index) (unsigned_abs (coefficient plane spot.block spot.index)) bit) →
    Left slice course plane spot →
    Left slice (after_bit course bit) (with_coefficient plane spot.block spot.index value) (record spot { word = spot.word / 2; index = spot.index + 1 })
raise_moves slice course plane spot bit value e settled value_is left =
    let is = stands_at stage.Raise slice course plane spot e left in
    let at : Place = place_in is.0 spot in
    let now = is.1.1 in
    let odd = raise_odd spot e settled in
    let next = passed at (is_active at) now.count spot.bucket spot.index spot.word odd.1 now.here in
    let active = raise_active slice course plane spot e settled is in
    let same = now.before spot.index (omega arith) active in
    let as_raised : raised_value at spot.index bit ≡ value = raised_as at plane spot.index bit same ∙ sym value_is in
    let left_over : ℕ = 16 * first_at at + 16 * count_at at - (spot.index + 1) in
    stands_as stage.Raise slice (after_bit course bit) (with_coefficient plane spot.block spot.index value)
    (record spot { word = spot.word / 2; index = spot.index + 1 }) e (
      is.0,
      (
        is.1.0,
        record {
          count = next.less;
          here = next.later;
          before = λ index low on. other_stays plane spot.block spot.index index value (λ e2. absurd (omega arith)) ∙ now.before index (omega arith) on;
          is = after_is course plane (raise_asked at spot.index) (after_raise at (later_blocks plane spot) left_over spot.index plane) bit
              (raise_course slice course plane spot e settled is)
              ∙ ap (λ (v : ℤ). raises at (later_blocks plane spot) left_over (spot.index + 1) (with_coefficient plane spot.block spot.index v)) as_raised;
        },
      ),
    )

pub raise_fits : (slice : ℕ) (course : Course) (plane : Plane) (spot : Spot) (bit : Bool) → spot.stage ≡ stage.Raise → is_settled spot ≡ true →
    IsPlane plane → spot.index < 1024 →
    Left slice course plane spot → StaySmall slice course →
    raised (threshold spot.number spot.index) (unsigned_abs (coefficient plane spot.block spot.index)) bit ≤ 32767
raise_fits slice course plane spot bit e settled full low left along =
    let is = stands_at stage.Raise slice course plane spot e left in
    let at : Place = place_in is.0 spot in
    let now = is.1.1 in
    let active = raise_active slice course plane spot e settled is in
    let same = now.before spot.index (omega arith) active in
    let left_over : ℕ = 16 * first_at at + 16 * count_at at - (spot.index + 1) in
    let value : ℤ = raised_value at spot.index bit in
    let small : IsSmall 32767 (with_coefficient plane spot.block spot.index value) =
    next_small slice course plane (with_coefficient plane spot.block spot.index value) (raise_asked at spot.index)
    (after_raise at (later_blocks plane spot) left_over spot.index plane) bit
    (raise_course slice course plane spot e settled is)
    (raises_tell at (later_blocks plane spot) left_over (spot.index + 1) (with_coefficient plane spot.block spot.index value) (later_tell plane spot)) along in
    let size : unsigned_abs value ≤ 32767 = small_value plane spot.block spot.index value full is.1.0.block low small in
    let as_raised = ap unsigned_abs (raised_as at plane spot.index bit same)
    ∙ abs_signed (is_negative (coefficient plane spot.block spot.index))
    (raised (threshold spot.number spot.index) (unsigned_abs (coefficient plane spot.block spot.index)) bit) in
    subst (λ (n : ℕ). n ≤ 32767) as_raised size

-- nothing was left
pub end_moves : (slice : ℕ) (course : Course) (plane : Plane) (spot : Spot) (bit : Bool) → spot.stage ≡ stage.End → Left slice course plane spot →
    Left slice (after_bit course bit) plane spot
end_moves slice course plane spot bit e left =
    let is = stands_at stage.End slice course plane spot e left in
    stands_as stage.End slice (after_bit course bit) plane spot e (record { number = is.number; is = ap (λ (c : Course). after_bit c bit) is.is })
