-- What is left of a slice tells the coefficients as they are, and they are small.
use Rattle.std.proofs.Common.{◌≡◌, ℕ, zero, suc, ◌+◌, ◌-◌, ◌*◌, Bool, true, false, ◌&&◌, List, [], ◌∷◌, ◌++◌, take, refl, ap, ◌∙◌, subst}
use Rattle.std.specs.Prelude.{◌==◌, not, if◌then◌else◌}
use Rattle.iw44_blocks.specs.Plane.{Plane, block_count, IsSmall}
use Rattle.iw44_slices.specs.Bands.{band_of, first_bucket, bucket_count}
use Rattle.iw44_slices.specs.Slice.{Place, Course, Ended, Asks, is_active, is_unknown, is_active_band, has_unknown, unknowns, raises, all_raises}
use Rattle.iw44_slices.specs.Slice.{starts, all_starts, choices, block_course, blocks_course, does_something, slice_course}
use Rattle.iw44_slices.specs.Reading.{plane_of}
use Rattle.iw44_slices.specs.Reader.{place_at, place_in, later_blocks, from_bucket, first_at, count_at, chosen_from, LeftAt, Left, StaySmall, Reader, Stands}
use Rattle.iw44_slices.specs.declared.spots.Spot.{Spot}
use Rattle.iw44_slices.specs.declared.spots.Stage.{Stage}
use Rattle.iw44_slices.specs.declared.spots.Stage.TheVariants as stage
use Rattle.iw44_slices.proofs.Staying.{due_is_small}

-- the blocks that follow tell their coefficients
abbrev pub Tell : (Plane → Course) → Type 0
Tell rest = (plane : Plane) → plane_of (rest plane) ≡ plane

tells_if : (t : Bool) (a b : Course) (plane : Plane) → plane_of a ≡ plane → plane_of b ≡ plane → plane_of (if t then a else b) ≡ plane
tells_if true a b plane first second = first
tells_if false a b plane first second = second

pub raises_tell : (at : Place) (rest : Plane → Course) (count index : ℕ) (plane : Plane) → Tell rest → plane_of (raises at rest count index plane) ≡ plane
raises_tell at rest zero index plane tell = tell plane
raises_tell at rest (suc count) index plane tell = tells_if (is_active at index) _ _ plane refl (raises_tell at rest count (index + 1) plane tell)

pub starts_tell : (at : Place) (rest : Plane → Course) (bucket count index left : ℕ) (plane : Plane) → Tell rest →
    plane_of (starts at rest bucket count index left plane) ≡ plane
starts_tell at rest bucket zero index left plane tell = tell plane
starts_tell at rest bucket (suc count) index left plane tell = tells_if (is_unknown at index) _ _ plane refl
    (starts_tell at rest bucket count (index + 1) left plane tell)

pub all_starts_tell : (at : Place) (rest : Plane → Course) (bucket : ℕ) (chosen : List Bool) (plane : Plane) → Tell rest →
    plane_of (all_starts at rest bucket chosen plane) ≡ plane
all_starts_tell at rest bucket [] plane tell = tell plane
all_starts_tell at rest bucket (true ∷ later) plane tell =
    starts_tell at (all_starts at rest (bucket + 1) later) bucket 16 (16 * bucket) (unknowns at bucket) plane
    (λ p. all_starts_tell at rest (bucket + 1) later p tell)
all_starts_tell at rest bucket (false ∷ later) plane tell = all_starts_tell at rest (bucket + 1) later plane tell

pub all_raises_tell : (at : Place) (rest : Plane → Course) → Tell rest → Tell (all_raises at rest)
all_raises_tell at rest tell plane = raises_tell at rest (16 * bucket_count (band_of at.slice)) (16 * first_bucket (band_of at.slice)) plane tell

pub choices_tell : (at : Place) (rest : Plane → Course) (count bucket : ℕ) (chosen : List Bool) → Tell rest →
    plane_of (choices at rest count bucket chosen) ≡ at.before
choices_tell at rest zero bucket chosen tell = all_starts_tell at (all_raises at rest) (first_bucket (band_of at.slice)) chosen at.before
    (all_raises_tell at rest tell)
choices_tell at rest (suc count) bucket chosen tell = tells_if (has_unknown at bucket) _ _ at.before refl
    (choices_tell at rest count (bucket + 1) (chosen ++ false ∷ []) tell)

block_tells : (at : Place) (rest : Plane → Course) → Tell rest → plane_of (block_course at rest) ≡ at.before
block_tells at rest tell =
    tells_if ((bucket_count (band_of at.slice) == 16) && not (is_active_band at)) _ _ at.before refl
    (choices_tell at rest (bucket_count (band_of at.slice)) (first_bucket (band_of at.slice)) [] tell)

pub blocks_tell : (slice count block : ℕ) (plane : Plane) → plane_of (blocks_course slice count block plane) ≡ plane
blocks_tell slice zero block plane = refl
blocks_tell slice (suc count) block plane = block_tells (place_at slice block plane) (λ after. blocks_course slice count (block + 1) after)
    (λ p. blocks_tell slice count (block + 1) p)

pub slice_tells : (slice : ℕ) (plane : Plane) → plane_of (slice_course slice plane) ≡ plane
slice_tells slice plane = tells_if (does_something slice) (blocks_course slice (block_count plane) 0 plane) (Ended plane) plane
    (blocks_tell slice (block_count plane) 0 plane) refl

pub later_tell : (plane : Plane) (spot : Spot) → Tell (later_blocks plane spot)
later_tell plane spot after = blocks_tell spot.number (block_count plane - (spot.block + 1)) (spot.block + 1) after

pub from_tells : (at : Place) (plane : Plane) (spot : Spot) (bucket : ℕ) → Tell (from_bucket at (later_blocks plane spot) spot.chosen bucket)
from_tells at plane spot bucket after =
    all_starts_tell at (all_raises at (later_blocks plane spot)) (first_at at + bucket) (chosen_from at spot.chosen bucket) after
    (all_raises_tell at (later_blocks plane spot) (later_tell plane spot))

tells_at : (s : Stage) (slice : ℕ) (course : Course) (plane : Plane) (spot : Spot) → LeftAt s slice course plane spot → plane_of course ≡ plane
tells_at stage.Slice slice course plane spot is = ap plane_of is.is ∙ slice_tells slice plane
tells_at stage.Block slice course plane spot is = ap plane_of is.is ∙ blocks_tell spot.number (block_count plane - spot.block) spot.block plane
tells_at stage.Root slice course plane spot is = ap plane_of is.1.is
tells_at stage.Bucket slice course plane spot is =
    ap plane_of is.1.is ∙ choices_tell (place_in plane spot) (later_blocks plane spot) (count_at (place_in plane spot) - spot.bucket)
    (first_at (place_in plane spot) + spot.bucket) (take spot.bucket spot.chosen)
    (later_tell plane spot)
tells_at stage.Chosen slice course plane spot is = ap plane_of is.1.1.is ∙ from_tells (place_in is.0 spot) plane spot spot.bucket plane
tells_at stage.Start slice course plane spot is =
    ap plane_of is.1.1.is ∙ starts_tell (place_in is.0 spot) (from_bucket (place_in is.0 spot) (later_blocks plane spot) spot.chosen (spot.bucket + 1))
    (first_at (place_in is.0 spot) + spot.bucket) is.1.1.count
    spot.index spot.left plane (from_tells (place_in is.0 spot) plane spot (spot.bucket + 1))
tells_at stage.Sign slice course plane spot is = ap plane_of is.1.1.is
tells_at stage.Raise slice course plane spot is = ap plane_of is.1.1.is ∙ raises_tell (place_in is.0 spot) (later_blocks plane spot)
    (16 * first_at (place_in is.0 spot) + 16 * count_at (place_in is.0 spot) - spot.index) spot.index plane (later_tell plane spot)
tells_at stage.End slice course plane spot is = ap plane_of is.is

pub left_tells : (slice : ℕ) (course : Course) (plane : Plane) (spot : Spot) → Left slice course plane spot → plane_of course ≡ plane
unfolding Left
left_tells slice course plane spot left = tells_at spot.stage slice course plane spot left

-- small coefficients

pub stays_small : (slice : ℕ) (course : Course) → StaySmall slice course → IsSmall 32767 (plane_of course)
stays_small slice (Ended plane) along = due_is_small (slice + 1) plane along
stays_small slice (Asks plane asked next) along = along.0

pub left_small : (slice : ℕ) (course : Course) (plane : Plane) (spot : Spot) → Left slice course plane spot → StaySmall slice course → IsSmall 32767 plane
left_small slice course plane spot left along = subst (IsSmall 32767) (left_tells slice course plane spot left) (stays_small slice course along)

pub stands_tells : (slice : ℕ) (course : Course) (plane : Plane) (reader : Reader) → Stands slice course plane reader → plane_of course ≡ plane
unfolding Stands
stands_tells slice course plane reader stands = left_tells slice course plane reader.spot stands.0

pub stands_small : (slice : ℕ) (course : Course) (plane : Plane) (reader : Reader) → Stands slice course plane reader → IsSmall 32767 plane
unfolding Stands
stands_small slice course plane reader stands = left_small slice course plane reader.spot stands.0 stands.1
