-- Sizes after what was read of a slice.
use Rattle.std.proofs.Common.{◌≡◌, ℕ, zero, suc, ◌+◌, ◌-◌, ◌*◌, ◌%◌, ◌<◌, ◌≤◌, Bool, pos, unsigned_abs, inl, inr, ap, sym, ◌∙◌, subst, arith}
use Rattle.std.proofs.Common.{replicate, get_or, nat_lt}
use Rattle.std.specs.Prelude.{if◌then◌else◌}
use Rattle.std.proofs.lemmas.Bool.Decides.{nat_tests}
use Rattle.std.proofs.lemmas.Bool.{cases_lt, cases_eq}
use Rattle.std.proofs.lemmas.List.{get_or-replicate, get_or_past, length-replicate}
use Rattle.zp_decoder.specs.declared.decoder.Decision.{Decision}
use Rattle.zp_decoder.specs.declared.decoder.Decision.TheVariants as decision
use Rattle.zp_decoder.specs.Chunk.{Chunk}
use Rattle.iw44_blocks.specs.Plane.{Plane, block_count, blocks_along, coefficient, zero_plane, IsSmall}
use Rattle.iw44_slices.specs.Bands.{band_of, threshold}
use Rattle.iw44_slices.specs.Slice.{Asked, Course, Ended, Asks, slice_course}
use Rattle.iw44_slices.specs.Reading.{At, Reading, plane_of, after_decision, outcome_at, read_on, read_slice}
use Rattle.iw44_slices.specs.Sizes.{IsDue, InBand, AreDue, Along}
use Rattle.iw44_slices.specs.declared.steps.SliceStep.TheVariants as step
use Rattle.iw44_slices.proofs.Sizes.{next_threshold, due_small}
use Rattle.iw44_slices.proofs.Courses.{Small, After, slice_does, slice_keeps, slice_counts, ends_within}

-- where a reading stops, and what is left there
pub record Left (P Q : Plane → Type 0) (reading : Reading) : Type 0 where
  pub along : Along P Q reading.left
  pub ended : reading.answer ≡ step.SliceEnd → Q (plane_of reading.left)

left_by : (P Q : Plane → Type 0) (from : Chunk) (plane : Plane) (asked : Asked) (next : Bool → Course) (at : At) (answer : Decision) → P plane →
    ((bit : Bool) → Along P Q (next bit)) →
    ((bit : Bool) (later : At) → Left P Q (read_on from (next bit) later)) →
    Left P Q (after_decision answer (outcome_at from asked at) plane asked next at (λ bit later. read_on from (next bit) later))
left_by P Q from plane asked next at (decision.Bit bit) here more goes = goes bit _
left_by P Q from plane asked next at decision.NeedBytes here more goes = record { along = (here, more); ended = λ e. cc }
left_by P Q from plane asked next at decision.Exhausted here more goes = record { along = (here, more); ended = λ e. cc }

pub read_left : (P Q : Plane → Type 0) (from : Chunk) (course : Course) (at : At) → Along P Q course → Left P Q (read_on from course at)
read_left P Q from (Ended plane) at is = record { along = is; ended = λ e. is }
read_left P Q from (Asks plane asked next) at is =
    left_by P Q from plane asked next at (outcome_at from asked at).answer is.0 is.1 (λ bit later. read_left P Q from (next bit) later (is.1 bit))

here_by : (P Q : Plane → Type 0) (course : Course) → Along P Q course → ((plane : Plane) → Q plane → P plane) → P (plane_of course)
here_by P Q (Ended plane) is also = also plane is
here_by P Q (Asks plane asked next) is also = is.0

-- the band of a coefficient
abbrev band_at : ℕ → ℕ
band_at m =
    if nat_lt m 16 then 0 else if nat_lt m 32 then 1 else if nat_lt m 48 then 2 else if nat_lt m 64 then 3 else if nat_lt m 128 then 4
    else if nat_lt m 192 then 5 else if nat_lt m 256 then 6 else if nat_lt m 512 then 7 else if nat_lt m 768 then 8 else 9

only : (band m : ℕ) → band < 10 → InBand band m → band_at m ≡ band
only zero m low here = let a = here.first in let b = here.last in grind (arith, nat_tests)
only (suc zero) m low here = let a = here.first in let b = here.last in grind (arith, nat_tests)
only (suc (suc zero)) m low here = let a = here.first in let b = here.last in grind (arith, nat_tests)
only (suc (suc (suc zero))) m low here = let a = here.first in let b = here.last in grind (arith, nat_tests)
only (suc (suc (suc (suc zero)))) m low here = let a = here.first in let b = here.last in grind (arith, nat_tests)
only (suc (suc (suc (suc (suc zero))))) m low here = let a = here.first in let b = here.last in grind (arith, nat_tests)
only (suc (suc (suc (suc (suc (suc zero)))))) m low here = let a = here.first in let b = here.last in grind (arith, nat_tests)
only (suc (suc (suc (suc (suc (suc (suc zero))))))) m low here = let a = here.first in let b = here.last in grind (arith, nat_tests)
only (suc (suc (suc (suc (suc (suc (suc (suc zero)))))))) m low here = let a = here.first in let b = here.last in grind (arith, nat_tests)
only (suc (suc (suc (suc (suc (suc (suc (suc (suc zero))))))))) m low here = let a = here.first in let b = here.last in grind (arith, nat_tests)
only (suc (suc (suc (suc (suc (suc (suc (suc (suc (suc band)))))))))) m low here = absurd (omega arith)

record Found (m : ℕ) : Type 0 where
  band : ℕ
  low : band < 10
  here : InBand band m

found_high : (m : ℕ) → m < 1024 → 256 ≤ m → Found m
found_high m small from = elim (cases_lt m 512) [
  | inl a ↦ record { band = 7; low = omega arith; here = record { first = omega arith; last = omega arith } }
  | inr a ↦ elim (cases_lt m 768) [
    | inl b ↦ record { band = 8; low = omega arith; here = record { first = omega arith; last = omega arith } }
    | inr b ↦ record { band = 9; low = omega arith; here = record { first = omega arith; last = omega arith } }
  ]
]

found_above : (m : ℕ) → m < 1024 → 64 ≤ m → Found m
found_above m small from = elim (cases_lt m 128) [
  | inl a ↦ record { band = 4; low = omega arith; here = record { first = omega arith; last = omega arith } }
  | inr a ↦ elim (cases_lt m 192) [
    | inl b ↦ record { band = 5; low = omega arith; here = record { first = omega arith; last = omega arith } }
    | inr b ↦ elim (cases_lt m 256) [
      | inl d ↦ record { band = 6; low = omega arith; here = record { first = omega arith; last = omega arith } }
      | inr d ↦ found_high m small d
    ]
  ]
]

found : (m : ℕ) → m < 1024 → Found m
found m small = elim (cases_lt m 16) [
  | inl a ↦ record { band = 0; low = omega arith; here = record { first = omega arith; last = omega arith } }
  | inr a ↦ elim (cases_lt m 32) [
    | inl b ↦ record { band = 1; low = omega arith; here = record { first = omega arith; last = omega arith } }
    | inr b ↦ elim (cases_lt m 48) [
      | inl d ↦ record { band = 2; low = omega arith; here = record { first = omega arith; last = omega arith } }
      | inr d ↦ elim (cases_lt m 64) [
        | inl e ↦ record { band = 3; low = omega arith; here = record { first = omega arith; last = omega arith } }
        | inr e ↦ found_above m small e
      ]
    ]
  ]
]

-- planes of which all is due are small
pub due_is_small : (slice : ℕ) (plane : Plane) → AreDue slice plane → IsSmall 32767 plane
due_is_small slice plane due c m inside small =
    let at = found m small in
    let later : ℕ = slice + (at.band + 10 - slice % 10) % 10 in
    let low = at.low in
    let same : band_of later ≡ at.band = omega arith in
    due_small (threshold later m) (coefficient plane c m) (due later c m (omega arith) (omega arith) inside (subst (λ (n : ℕ). InBand n m) (sym same) at.here))

-- what holds along a course

along_each : (A : Type 0) (P Q : A → Plane → Type 0) (course : Course) → ((a : A) → Along (P a) (Q a) course) →
    Along (λ plane. (a : A) → P a plane) (λ plane. (a : A) → Q a plane) course
along_each A P Q (Ended plane) all = all
along_each A P Q (Asks plane asked next) all = (λ a. (all a).0, λ bit. along_each A P Q (next bit) (λ a. (all a).1 bit))

along_both : (P Q R S : Plane → Type 0) (course : Course) → Along P Q course → Along R S course →
    Along (λ plane. P plane × R plane) (λ plane. Q plane × S plane) course
along_both P Q R S (Ended plane) first second = (first, second)
along_both P Q R S (Asks plane asked next) first second = ((first.0, second.0), λ bit. along_both P Q R S (next bit) (first.1 bit) (second.1 bit))

along_as : (P Q R S : Plane → Type 0) (course : Course) → ((plane : Plane) → P plane → R plane) → ((plane : Plane) → Q plane → S plane) → Along P Q course →
    Along R S course
along_as P Q R S (Ended plane) asks ends is = ends plane is
along_as P Q R S (Asks plane asked next) asks ends is = (asks plane is.0, λ bit. along_as P Q R S (next bit) asks ends (is.1 bit))

-- one coefficient in the ten slices behind this one
abbrev DueFrom : ℕ → ℕ → ℕ → Plane → Type 0
DueFrom slice c m after = (later : ℕ) → slice + 1 ≤ later → later < slice + 1 + 10 → InBand (band_of later) m →
    IsDue (threshold later m) (coefficient after c m)

own_due : (slice c m : ℕ) (after : Plane) → m < 1024 → InBand (band_of slice) m → After slice c m after → DueFrom slice c m after
own_due slice c m after small own done later first last here =
    elim (cases_eq later (slice + 10)) [
      | inl last_one ↦ subst (λ (t : ℕ). IsDue t (coefficient after c m)) (sym (ap (λ n. threshold n m) last_one ∙ next_threshold slice m)) done
      | inr earlier ↦
          let bands : band_of slice ≡ band_of later = sym (only (band_of slice) m (omega arith) own) ∙ only (band_of later) m (omega arith) here in
          absurd (omega arith)
    ]

other_due : (slice c m : ℕ) (plane after : Plane) → m < 1024 → c < block_count plane → AreDue slice plane → (InBand (band_of slice) m → ⊥) →
    coefficient after c m ≡ coefficient plane c m →
    DueFrom slice c m after
other_due slice c m plane after small inside due apart same later first last here =
    elim (cases_eq later (slice + 10)) [
      | inl last_one ↦
          let band : band_of later ≡ band_of slice = omega arith in
          absurd (apart (subst (λ (n : ℕ). InBand n m) band here))
      | inr earlier ↦ subst (IsDue (threshold later m)) (sym same) (due later c m (omega arith) (omega arith) inside here)
    ]

-- a coefficient of a plane
record Coded (plane : Plane) : Type 0 where
  block : ℕ
  index : ℕ
  inside : block < block_count plane
  small : index < 1024

coefficient_stays : (slice : ℕ) (plane : Plane) → AreDue slice plane →
    (a : Coded plane) → Along (Small a.block a.index) (DueFrom slice a.block a.index) (slice_course slice plane)
coefficient_stays slice plane due a =
    let place = found a.index a.small in
    let low = place.low in
    let inside = a.inside in
    let small = a.small in
    elim (cases_eq (band_of slice) place.band) [
      | inl own ↦
          let here : InBand (band_of slice) a.index = subst (λ (n : ℕ). InBand n a.index) (sym own) place.here in
          along_as (Small a.block a.index) (After slice a.block a.index) (Small a.block a.index) (DueFrom slice a.block a.index) (slice_course slice plane)
          (λ p is. is)
          (λ p is. own_due slice a.block a.index p small here is)
          (slice_does slice a.block a.index plane here inside (due slice a.block a.index (omega arith) (omega arith) inside here))
      | inr other ↦
          let apart : InBand (band_of slice) a.index →
          ⊥ = λ here. other (sym (only (band_of slice) a.index (omega arith) here) ∙ only place.band a.index low place.here) in
          along_as (Small a.block a.index) (λ after. coefficient after a.block a.index ≡ coefficient plane a.block a.index) (Small a.block a.index)
          (DueFrom slice a.block a.index)
          (slice_course slice plane) (λ p is. is) (λ p is. other_due slice a.block a.index plane p small inside due apart is)
          (slice_keeps slice a.block a.index plane small apart (due_is_small slice plane due a.block a.index inside small))
    ]

-- along a slice all coefficients stay small, and at its end they are due
pub slice_stays_small : (slice : ℕ) (plane : Plane) → AreDue slice plane → Along (IsSmall 32767) (AreDue (slice + 1)) (slice_course slice plane)
slice_stays_small slice plane due =
    along_as (λ p. ((a : Coded plane) → Small a.block a.index p) × (block_count p ≡ block_count plane))
    (λ p. ((a : Coded plane) → DueFrom slice a.block a.index p) × (block_count p ≡ block_count plane))
    (IsSmall 32767) (AreDue (slice + 1)) (slice_course slice plane)
    (λ p is c m inside small. (let count = is.1 in is.0 (record { block = c; index = m; inside = omega arith; small = small })))
    (λ p is later c m first last inside here.
    (let count = is.1 in
    let high = here.last in
    let most = ends_within (band_of later) in
    is.0 (record { block = c; index = m; inside = omega arith; small = omega arith }) later first last here))
    (along_both (λ p. (a : Coded plane) → Small a.block a.index p) (λ p. (a : Coded plane) → DueFrom slice a.block a.index p)
    (λ p. block_count p ≡ block_count plane) (λ p. block_count p ≡ block_count plane)
    (slice_course slice plane)
    (along_each (Coded plane) (λ a. Small a.block a.index) (λ a. DueFrom slice a.block a.index) (slice_course slice plane) (coefficient_stays slice plane due))
    (slice_counts slice plane))

-- in a slice, as far as it was read
pub partly_small : (slice : ℕ) (plane : Plane) (from : Chunk) (at : At) → AreDue slice plane → IsSmall 32767 (plane_of (read_slice from slice plane at).left)
partly_small slice plane from at due =
    here_by (IsSmall 32767) (AreDue (slice + 1)) (read_slice from slice plane at).left
    (read_left (IsSmall 32767) (AreDue (slice + 1)) from (slice_course slice plane) at (slice_stays_small slice plane due)).along
    (λ p is. due_is_small (slice + 1) p is)

-- after a slice
pub still_due : (slice : ℕ) (plane : Plane) (from : Chunk) (at : At) → AreDue slice plane → (read_slice from slice plane at).answer ≡ step.SliceEnd →
    AreDue (slice + 1) (plane_of (read_slice from slice plane at).left)
still_due slice plane from at due ends =
    (read_left (IsSmall 32767) (AreDue (slice + 1)) from (slice_course slice plane) at (slice_stays_small slice plane due)).ended ends

-- a new plane
zero_there : (n i : ℕ) → get_or (replicate n (pos 0)) i (pos 0) ≡ pos 0
zero_there n i = elim (cases_lt i n) [
  | inl inside ↦ get_or-replicate n i (pos 0) (pos 0) inside
  | inr past ↦ get_or_past (replicate n (pos 0)) i (pos 0) (let e = length-replicate n (pos 0) in omega arith)
]

pub new_due : (width height : ℕ) → AreDue 0 (zero_plane width height)
new_due width height later c m first last inside here = inl (ap unsigned_abs (zero_there (1024 * (blocks_along width * blocks_along height)) (1024 * c + m)))
