-- After 200 slices no threshold is in use.
use Rattle.std.proofs.Common.{◌≡◌, ℕ, zero, suc, ◌+◌, ◌*◌, ◌/◌, ◌^◌, ◌<◌, ◌≤◌, Bool, true, false, ◌&&◌, ◌||◌, List, [], ◌∷◌, refl, ap, ◌∙◌, arith, nat_le}
use Rattle.std.specs.Prelude.{slice_index_or, if◌then◌else◌}
use Rattle.std.specs.List.{list_all}
use Rattle.std.proofs.lemmas.Bool.Decides.{nat_tests}
use Rattle.std.proofs.lemmas.Nat.{div_below}
use Rattle.std.proofs.Math.Pow.{pow_mono}
use Rattle.iw44_blocks.specs.Plane.{Plane, block_count}
use Rattle.iw44_slices.specs.Bands.{band_of, first_bucket, bucket_count, low_thresholds, band_thresholds, first_threshold, threshold, is_in_use}
use Rattle.iw44_slices.specs.Slice.{Ended, some_from, does_something, blocks_course, slice_course}

-- no number of a list is above 80000 hexadecimal
abbrev AreLow : List ℕ → Type 0
AreLow xs = list_all (λ x. nat_le x 0x80000) xs ≡ true

first_low : (x : ℕ) (rest : Bool) → (nat_le x 0x80000 && rest) ≡ true → (x ≤ 0x80000) × (rest ≡ true)
first_low x true e = (grind (arith, nat_tests), refl)
first_low x false e = (grind (arith, nat_tests), grind (arith, nat_tests))

most_at : (xs : List ℕ) (i : ℕ) → AreLow xs → slice_index_or xs i 0 ≤ 0x80000
most_at [] zero e = omega arith
most_at [] (suc i) e = omega arith
most_at (x ∷ xs) zero e = (first_low x (list_all (λ y. nat_le y 0x80000) xs) e).0
most_at (x ∷ xs) (suc i) e = most_at xs i (first_low x (list_all (λ y. nat_le y 0x80000) xs) e).1

pub first_most : (band index : ℕ) → first_threshold band index ≤ 0x80000
first_most zero index = most_at low_thresholds index refl
first_most (suc band) index = most_at band_thresholds (suc band) refl

threshold_ends : (slice index : ℕ) → 200 ≤ slice → threshold slice index ≡ 0
threshold_ends slice index late =
    let more : 20 ≤ slice / 10 = omega arith in
    let high : 0x100000 ≤ 2 ^ (slice / 10) = pow_mono more in
    let low = first_most (band_of slice) index in
    let below : first_threshold (band_of slice) index / 2 ^ (slice / 10) < 1 = div_below (first_threshold (band_of slice) index) (2 ^ (slice / 10)) 1 (omega arith) (omega arith) in
    omega arith

none_from : (test : ℕ → Bool) (count from : ℕ) → ((i : ℕ) → test i ≡ false) → some_from test count from ≡ false
none_from test zero from none = refl
none_from test (suc count) from none = ap (λ b. b || some_from test count (from + 1)) (none from) ∙ none_from test count (from + 1) none

pub nothing_late : (slice : ℕ) → 200 ≤ slice → does_something slice ≡ false
nothing_late slice late =
    none_from (λ index. is_in_use (threshold slice index)) (16 * bucket_count (band_of slice)) (16 * first_bucket (band_of slice)) (λ i. ap is_in_use (threshold_ends slice i late))

pub slice_ends : (slice : ℕ) (plane : Plane) → 200 ≤ slice → slice_course slice plane ≡ Ended plane
slice_ends slice plane late = ap (λ b. if b then blocks_course slice (block_count plane) 0 plane else Ended plane) (nothing_late slice late)
