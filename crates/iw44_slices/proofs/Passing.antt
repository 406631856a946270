-- How a reader passes buckets and coefficients that have no decision.
use Rattle.std.proofs.Common.{◌≡◌, ℕ, zero, suc, ◌+◌, ◌-◌, ◌*◌, ◌/◌, ◌%◌, ◌<◌, ◌≤◌, Bool, true, false, ◌&&◌, List, length, take}
use Rattle.std.proofs.Common.{get_or, set, refl, ap, sym, ◌∙◌, subst, arith}
use Rattle.std.specs.Prelude.{◌==◌, not, nat_lt}
use Rattle.std.specs.Int.Count.{ones}
use Rattle.std.proofs.lemmas.Bool.Decides.{nat_tests}
use Rattle.iw44_blocks.specs.Plane.{Plane}
use Rattle.iw44_slices.specs.Bands.{band_of, first_bucket, bucket_count, threshold, is_in_use}
use Rattle.iw44_slices.specs.Slice.{Place, Course, is_active, is_unknown, raises, all_raises, starts, all_starts, choices, before_at}
use Rattle.iw44_blocks.specs.Words.{is_zero}
use Rattle.iw44_blocks.specs.Words.{AreBits}
use Rattle.iw44_slices.specs.Reader.{place_in, first_at, count_at, later_blocks, AreMarked, InBucket, from_bucket}
use Rattle.iw44_slices.specs.Reader.{Left}
use Rattle.iw44_slices.specs.Moves.{is_settled}
use Rattle.iw44_slices.specs.declared.spots.Spot.{Spot}
use Rattle.iw44_slices.specs.declared.spots.Stage.TheVariants as stage
use Rattle.iw44_blocks.proofs.Lemmas.{none_bits}
use Rattle.iw44_slices.proofs.Bits.{all_bits, zero_none, first_bit, some_left, ones_are}
use Rattle.iw44_slices.proofs.Courses.{ends_within}
use Rattle.iw44_slices.proofs.Skipping.{raises_pass, raises_none, starts_pass, starts_none, choices_pass, choice_kept, bucket_left_out, bucket_starts}
use Rattle.iw44_slices.proofs.Skipping.{buckets_end}
use Rattle.iw44_slices.proofs.Standing.{stands_at, stands_as, settled_at}

-- tests of stages

empty_word : (bucket count word : ℕ) → (nat_lt bucket count && not (word == 0)) ≡ false → bucket < count → word ≡ 0
empty_word bucket count word e within = grind (arith, nat_tests)

-- the word's first bit is 0
even_word : (word : ℕ) → (word % 2 == 1) ≡ false → word % 2 ≡ 0
even_word word e = grind (arith, nat_tests)

-- buckets

pub bucket_passes : (slice : ℕ) (course : Course) (plane : Plane) (spot : Spot) → spot.stage ≡ stage.Bucket → is_settled spot ≡ false →
    spot.bucket < bucket_count (band_of spot.number) → spot.bucket < length spot.chosen → Left slice course plane spot →
    Left slice course plane (record spot { chosen = set spot.chosen spot.bucket false; bucket = spot.bucket + 1 })
unfolding Left
bucket_passes slice course plane spot e open' within size left =
    let is = stands_at stage.Bucket slice course plane spot e left in
    let at : Place = place_in plane spot in
    let none : get_or spot.unknown spot.bucket 0 ≡ 0 = empty_word spot.bucket (bucket_count (band_of spot.number)) (get_or spot.unknown spot.bucket 0)
    (settled_at stage.Bucket spot false e open') within in
    let bits : AreBits (is_unknown at) 16 (16 * (first_at at + spot.bucket)) 0 =
    subst (λ (w : ℕ). AreBits (is_unknown at) 16 (16 * (first_at at + spot.bucket)) w) none (is.0.marks.unknown spot.bucket within) in
    let more : count_at at - spot.bucket ≡ suc (count_at at - (spot.bucket + 1)) = omega arith in
    stands_as stage.Bucket slice course plane (record spot { chosen = set spot.chosen spot.bucket false; bucket = spot.bucket + 1 }) e (
      is.0,
      record {
        within = omega arith;
        is = is.1.is ∙ (ap (λ (n : ℕ). choices at (later_blocks plane spot) n (first_at at + spot.bucket) (take spot.bucket spot.chosen)) more
            ∙ (choices_pass at (later_blocks plane spot) (count_at at - (spot.bucket + 1)) (first_at at + spot.bucket) (take spot.bucket spot.chosen)
            (zero_none (is_unknown at) 16 (16 * (first_at at + spot.bucket)) bits)
            ∙ choice_kept at (later_blocks plane spot) (count_at at - (spot.bucket + 1)) (first_at at) spot.bucket spot.chosen false size));
      },
    )

pub buckets_are_over : (slice : ℕ) (course : Course) (plane : Plane) (spot : Spot) → spot.stage ≡ stage.Bucket →
    bucket_count (band_of spot.number) ≤ spot.bucket → Left slice course plane spot →
    Left slice course plane (record spot { stage = stage.Chosen; bucket = 0 })
unfolding Left
buckets_are_over slice course plane spot e all left =
    let is = stands_at stage.Bucket slice course plane spot e left in
    let at : Place = place_in plane spot in
    let within = is.1.within in
    let same : spot.bucket ≡ count_at at = omega arith in
    let none : count_at at - spot.bucket ≡ 0 = omega arith in
    let first : first_at at ≡ first_at at + 0 = omega arith in (
      plane,
      (
        is.0,
        record {
          within = omega arith;
          before = λ index low active. refl;
          is = is.1.is ∙ (ap (λ (n : ℕ). choices at (later_blocks plane spot) n (first_at at + spot.bucket) (take spot.bucket spot.chosen)) none
              ∙ (ap (λ (n : ℕ). all_starts at (all_raises at (later_blocks plane spot)) (first_at at) (take n spot.chosen) plane) same
              ∙ ap (λ (n : ℕ). all_starts at (all_raises at (later_blocks plane spot)) n (take (count_at at) spot.chosen) plane) first));
        },
      ),
    )

-- buckets that were chosen

pub chosen_passes : (slice : ℕ) (course : Course) (plane : Plane) (spot : Spot) → spot.stage ≡ stage.Chosen →
    spot.bucket < bucket_count (band_of spot.number) →
    bucket_count (band_of spot.number) ≤ length spot.chosen → get_or spot.chosen spot.bucket false ≡ false → Left slice course plane spot →
    Left slice course plane (record spot { bucket = spot.bucket + 1 })
unfolding Left
chosen_passes slice course plane spot e within full unchosen left =
    let is = stands_at stage.Chosen slice course plane spot e left in
    let at : Place = place_in is.0 spot in
    stands_as stage.Chosen slice course plane (record spot { bucket = spot.bucket + 1 }) e (
      is.0,
      (
        is.1.0,
        record {
          within = omega arith;
          before = is.1.1.before;
          is = is.1.1.is ∙ bucket_left_out at (later_blocks plane spot) spot.chosen spot.bucket plane full within unchosen;
        },
      ),
    )

pub chosen_opens : (slice : ℕ) (course : Course) (plane : Plane) (spot : Spot) (left_over : ℕ) → spot.stage ≡ stage.Chosen →
    spot.bucket < bucket_count (band_of spot.number) →
    bucket_count (band_of spot.number) ≤ length spot.chosen → get_or spot.chosen spot.bucket false ≡ true →
    left_over ≡ ones (get_or spot.unknown spot.bucket 0) →
    Left slice course plane spot →
    Left slice course plane
    (record spot {
      stage = stage.Start;
      word = get_or spot.unknown spot.bucket 0;
      index = 16 * (first_bucket (band_of spot.number) + spot.bucket);
      left =
          left_over;
    })
unfolding Left
chosen_opens slice course plane spot left_over e within full chosen counted left =
    let is = stands_at stage.Chosen slice course plane spot e left in
    let at : Place = place_in is.0 spot in
    let bits = is.1.0.marks.unknown spot.bucket within in
    let all = ones_are (is_unknown at) 16 (16 * (first_at at + spot.bucket)) (get_or spot.unknown spot.bucket 0) bits in (
      is.0,
      (
        is.1.0,
        record {
          count = 16;
          here = record { within = within; rest = omega arith; low = omega arith; bits = bits };
          before = is.1.1.before;
          is = is.1.1.is ∙ (bucket_starts at (later_blocks plane spot) spot.chosen spot.bucket plane full within chosen
              ∙ ap (λ (n : ℕ). starts at (from_bucket at (later_blocks plane spot) spot.chosen (spot.bucket + 1)) (first_at at + spot.bucket) 16
              (16 * (first_at at + spot.bucket)) n plane)
              (sym (counted ∙ all)));
        },
      ),
    )

pub raises_begin : (slice : ℕ) (course : Course) (plane : Plane) (spot : Spot) → spot.stage ≡ stage.Chosen → bucket_count (band_of spot.number) ≤ spot.bucket →
    0 < bucket_count (band_of spot.number) → Left slice course plane spot →
    Left slice course plane
    (record spot { stage = stage.Raise; bucket = 0; word = get_or spot.active 0 0; index = 16 * (first_bucket (band_of spot.number) + 0) })
unfolding Left
raises_begin slice course plane spot e all some left =
    let is = stands_at stage.Chosen slice course plane spot e left in
    let at : Place = place_in is.0 spot in
    let first : 16 * first_at at ≡ 16 * (first_at at + 0) = omega arith in
    let many : 16 * count_at at ≡ 16 * first_at at + 16 * count_at at - 16 * (first_at at + 0) = omega arith in (
      is.0,
      (
        is.1.0,
        record {
          count = 16;
          here = record { within = some; rest = omega arith; low = omega arith; bits = is.1.0.marks.active 0 some };
          before = λ index low active. is.1.1.before index (omega arith) active;
          is = is.1.1.is ∙ (buckets_end at (later_blocks plane spot) spot.chosen spot.bucket plane all
              ∙ (ap (λ (n : ℕ). raises at (later_blocks plane spot) n (16 * first_at at) plane) many
              ∙ ap (λ (n : ℕ). raises at (later_blocks plane spot) (16 * first_at at + 16 * count_at at - 16 * (first_at at + 0)) n plane) first));
        },
      ),
    )

-- coefficients of a bucket

-- where the word isn't 0, one is left
pub record Passed (at : Place) (test : ℕ → Bool) (count bucket index word : ℕ) : Type 0 where
  pub less : ℕ
  pub one : count ≡ suc less
  pub first : (word % 2 == 1) ≡ test index
  pub later : InBucket at test less bucket (index + 1) (word / 2)

pub passed : (at : Place) (test : ℕ → Bool) (count bucket index word : ℕ) → 0 < word → InBucket at test count bucket index word →
    Passed at test count bucket index word
passed at test count bucket index word some here =
    let left = some_left test count index word here.bits some in
    let rest = here.rest in
    let low = here.low in
    let one = left.1 in
    let bits = first_bit test left.0 index word (subst (λ (n : ℕ). AreBits test n index word) one here.bits) in
    record { less = left.0; one = one; first = bits.0; later = record { within = here.within; rest = omega arith; low = omega arith; bits = bits.1 } }

pub few_buckets : (band : ℕ) → bucket_count band ≤ 16
few_buckets zero = omega arith
few_buckets (suc zero) = omega arith
few_buckets (suc (suc zero)) = omega arith
few_buckets (suc (suc (suc zero))) = omega arith
few_buckets (suc (suc (suc (suc zero)))) = omega arith
few_buckets (suc (suc (suc (suc (suc zero))))) = omega arith
few_buckets (suc (suc (suc (suc (suc (suc zero)))))) = omega arith
few_buckets (suc (suc (suc (suc (suc (suc (suc zero))))))) = omega arith
few_buckets (suc (suc (suc (suc (suc (suc (suc (suc zero)))))))) = omega arith
few_buckets (suc (suc (suc (suc (suc (suc (suc (suc (suc zero))))))))) = omega arith
few_buckets (suc (suc (suc (suc (suc (suc (suc (suc (suc (suc band)))))))))) = omega arith

-- coefficients of a bucket are the block's
pub in_block : (at : Place) (test : ℕ → Bool) (count bucket index word : ℕ) → InBucket at test count bucket index word → (bucket < 16) × (index + count ≤ 1024)
in_block at test count bucket index word here =
    let within = here.within in
    let rest = here.rest in
    let all = ends_within (band_of at.slice) in
    let few = few_buckets (band_of at.slice) in
    (omega arith, omega arith)

-- of the band's coefficients one less is left
pub raises_more : (at : Place) (test : ℕ → Bool) (count less bucket index word : ℕ) → count ≡ suc less → InBucket at test count bucket index word →
    16 * first_at at + 16 * count_at at - index ≡ suc (16 * first_at at + 16 * count_at at - (index + 1))
raises_more at test count less bucket index word one here = let within = here.within in let rest = here.rest in omega arith

pub start_passes : (slice : ℕ) (course : Course) (plane : Plane) (spot : Spot) → spot.stage ≡ stage.Start → is_settled spot ≡ false → 0 < spot.word →
    Left slice course plane spot →
    Left slice course plane (record spot { word = spot.word / 2; index = spot.index + 1 })
unfolding Left
start_passes slice course plane spot e open' some left =
    let is = stands_at stage.Start slice course plane spot e left in
    let at : Place = place_in is.0 spot in
    let now = is.1.1 in
    let next = passed at (is_unknown at) now.count spot.bucket spot.index spot.word some now.here in
    let later = from_bucket at (later_blocks plane spot) spot.chosen (spot.bucket + 1) in
    stands_as stage.Start slice course plane (record spot { word = spot.word / 2; index = spot.index + 1 }) e (
      is.0,
      (
        is.1.0,
        record {
          count = next.less;
          here = next.later;
          before = now.before;
          is = now.is ∙ (ap (λ (n : ℕ). starts at later (first_at at + spot.bucket) n spot.index spot.left plane) next.one
              ∙ starts_pass at later (first_at at + spot.bucket) next.less spot.index spot.left plane (sym next.first
              ∙ settled_at stage.Start spot false e open'));
        },
      ),
    )

pub starts_are_over : (slice : ℕ) (course : Course) (plane : Plane) (spot : Spot) → spot.stage ≡ stage.Start → spot.word ≡ 0 → Left slice course plane spot →
    Left slice course plane (record spot { stage = stage.Chosen; bucket = spot.bucket + 1 })
unfolding Left
starts_are_over slice course plane spot e none left =
    let is = stands_at stage.Start slice course plane spot e left in
    let at : Place = place_in is.0 spot in
    let now = is.1.1 in
    let within = now.here.within in
    let later = from_bucket at (later_blocks plane spot) spot.chosen (spot.bucket + 1) in (
      is.0,
      (
        is.1.0,
        record {
          within = omega arith;
          before = now.before;
          is = now.is ∙ starts_none at later (first_at at + spot.bucket) now.count spot.index spot.left plane
              (subst (λ (w : ℕ). AreBits (is_unknown at) now.count spot.index w) none now.here.bits);
        },
      ),
    )

pub raise_passes : (slice : ℕ) (course : Course) (plane : Plane) (spot : Spot) → spot.stage ≡ stage.Raise → is_settled spot ≡ false → 0 < spot.word →
    Left slice course plane spot →
    Left slice course plane (record spot { word = spot.word / 2; index = spot.index + 1 })
unfolding Left
raise_passes slice course plane spot e open' some left =
    let is = stands_at stage.Raise slice course plane spot e left in
    let at : Place = place_in is.0 spot in
    let now = is.1.1 in
    let next = passed at (is_active at) now.count spot.bucket spot.index spot.word some now.here in
    let more = raises_more at (is_active at) now.count next.less spot.bucket spot.index spot.word next.one now.here in
    stands_as stage.Raise slice course plane (record spot { word = spot.word / 2; index = spot.index + 1 }) e (
      is.0,
      (
        is.1.0,
        record {
          count = next.less;
          here = next.later;
          before = λ index low active. now.before index (omega arith) active;
          is = now.is ∙ (ap (λ (n : ℕ). raises at (later_blocks plane spot) n spot.index plane) more
              ∙ raises_pass at (later_blocks plane spot) (16 * first_at at + 16 * count_at at - (spot.index + 1)) spot.index plane (sym next.first
              ∙ settled_at stage.Raise spot false e open'));
        },
      ),
    )

-- the coefficients of the bucket at hand are passed, and so many of the band are left
bucket_raised : (at : Place) (rest : Plane → Course) (count bucket index : ℕ) (plane : Plane) → InBucket at (is_active at) count bucket index 0 →
    raises at rest (16 * first_at at + 16 * count_at at - index) index plane
    ≡ raises at rest (16 * first_at at + 16 * count_at at - 16 * (first_at at + (bucket + 1))) (16 * (first_at at + (bucket + 1))) plane
bucket_raised at rest count bucket index plane here =
    let within = here.within in
    let low = here.low in
    let all = here.rest in
    let left : 16 * first_at at + 16 * count_at at - index ≡ count + (16 * first_at at + 16 * count_at at - 16 * (first_at at + (bucket + 1))) = omega arith in
    let next : index + count ≡ 16 * (first_at at + (bucket + 1)) = omega arith in
    ap (λ (n : ℕ). raises at rest n index plane) left
    ∙ (raises_none at rest count (16 * first_at at + 16 * count_at at - 16 * (first_at at + (bucket + 1))) index plane here.bits
    ∙ ap (λ (n : ℕ). raises at rest (16 * first_at at + 16 * count_at at - 16 * (first_at at + (bucket + 1))) n plane) next)

pub raises_go_on : (slice : ℕ) (course : Course) (plane : Plane) (spot : Spot) → spot.stage ≡ stage.Raise → spot.word ≡ 0 →
    spot.bucket + 1 < bucket_count (band_of spot.number) →
    Left slice course plane spot →
    Left slice course plane
    (record spot {
      stage = stage.Raise;
      bucket = spot.bucket + 1;
      word = get_or spot.active (spot.bucket + 1) 0;
      index =
          16 * (first_bucket (band_of spot.number) + (spot.bucket + 1));
    })
unfolding Left
raises_go_on slice course plane spot e none within left =
    let is = stands_at stage.Raise slice course plane spot e left in
    let at : Place = place_in is.0 spot in
    let now = is.1.1 in
    let low = now.here.rest in (
      is.0,
      (
        is.1.0,
        record {
          count = 16;
          here = record { within = within; rest = omega arith; low = omega arith; bits = is.1.0.marks.active (spot.bucket + 1) within };
          before = λ index above active. now.before index (omega arith) active;
          is = now.is ∙ bucket_raised at (later_blocks plane spot) now.count spot.bucket spot.index plane
              (subst (λ (w : ℕ). InBucket at (is_active at) now.count spot.bucket spot.index w) none now.here);
        },
      ),
    )

pub raises_are_over : (slice : ℕ) (course : Course) (plane : Plane) (spot : Spot) → spot.stage ≡ stage.Raise → spot.word ≡ 0 →
    bucket_count (band_of spot.number) ≤ spot.bucket + 1 →
    Left slice course plane spot → Left slice course plane (record spot { stage = stage.Block; block = spot.block + 1 })
unfolding Left
raises_are_over slice course plane spot e none last left =
    let is = stands_at stage.Raise slice course plane spot e left in
    let at : Place = place_in is.0 spot in
    let now = is.1.1 in
    let within = now.here.within in
    let inside = is.1.0.block in
    let over : 16 * first_at at + 16 * count_at at - 16 * (first_at at + (spot.bucket + 1)) ≡ 0 = omega arith in
    record {
      same = is.1.0.number;
      used = is.1.0.used;
      within = omega arith;
      is = now.is ∙ (bucket_raised at (later_blocks plane spot) now.count spot.bucket spot.index plane
          (subst (λ (w : ℕ). InBucket at (is_active at) now.count spot.bucket spot.index w) none now.here)
          ∙ ap (λ (n : ℕ). raises at (later_blocks plane spot) n (16 * (first_at at + (spot.bucket + 1))) plane) over);
    }

-- a band whose coefficients all are 0 and unknown

active_none : (used zero' : Bool) → zero' ≡ true → (used && not zero') ≡ false
active_none true zero' e = ap not e
active_none false zero' e = refl

both_are : (used zero' : Bool) → used ≡ true → zero' ≡ true → (used && zero') ≡ true
both_are true zero' first second = second
both_are false zero' first second = cc

pub blank_marks : (at : Place) (actives unknowns : List ℕ) → ((index : ℕ) → is_in_use (threshold at.slice index) ≡ true) →
    ((place : ℕ) → place < 16 * count_at at → is_zero (before_at at (16 * first_at at + place)) ≡ true) →
    ((k : ℕ) → k < 16 → get_or actives k 0 ≡ 0) → ((k : ℕ) → k < 16 → get_or unknowns k 0 ≡ 65535) → AreMarked at false actives unknowns
blank_marks at actives unknowns used blank no_active all_unknown =
    let few = few_buckets (band_of at.slice) in
    let is_blank : (i : ℕ) → 16 * first_at at ≤ i → i < 16 * first_at at + 16 * count_at at → is_zero (before_at at i) ≡ true =
    λ i low high.
    (let place : ℕ = i - 16 * first_at at in
    let same : 16 * first_at at + place ≡ i = omega arith in
    subst (λ (n : ℕ). is_zero (before_at at n) ≡ true) same (blank place (omega arith))) in
    let idle : (i : ℕ) → 16 * first_at at ≤ i → i < 16 * first_at at + 16 * count_at at → is_active at i ≡ false =
    λ i low high. active_none (is_in_use (threshold at.slice i)) (is_zero (before_at at i)) (is_blank i low high) in
    let unknown : (i : ℕ) → 16 * first_at at ≤ i → i < 16 * first_at at + 16 * count_at at → is_unknown at i ≡ true =
    λ i low high. both_are (is_in_use (threshold at.slice i)) (is_zero (before_at at i)) (used i) (is_blank i low high) in
    record {
      activity = sym (zero_none (is_active at) (16 * count_at at) (16 * first_at at) (none_bits (is_active at) (16 * count_at at) (16 * first_at at) idle));
      active = λ k low. subst (λ (w : ℕ). AreBits (is_active at) 16 (16 * (first_at at + k)) w) (sym (no_active k (omega arith)))
          (none_bits (is_active at) 16 (16 * (first_at at + k)) (λ i above below. idle i (omega arith) (omega arith)));
      unknown = λ k low. subst (λ (w : ℕ). AreBits (is_unknown at) 16 (16 * (first_at at + k)) w) (sym (all_unknown k (omega arith)))
          (all_bits (is_unknown at) 16 (16 * (first_at at + k)) 65535 refl (λ i above below. unknown i (omega arith) (omega arith)));
    }
