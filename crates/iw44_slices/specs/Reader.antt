-- How a reader of slices stands to what is left of a slice.
use Rattle.std.specs.Prelude.{◌≡◌, ℕ, suc, ◌+◌, ◌-◌, ◌*◌, ◌<◌, ◌≤◌, Bool, true, min, List, take, drop, Option, slice_index, if◌then◌else◌}
use Rattle.zp_decoder.specs.Chunk.{chunk}
use Rattle.zp_decoder.specs.Decision.{Interval}
use Rattle.zp_decoder.specs.Decoder.{Decoder}
use Rattle.iw44_blocks.specs.Plane.{Plane, IsSmall, block_count, coefficient, with_coefficient}
use Rattle.iw44_slices.specs.Bands.{band_of, first_bucket, bucket_count}
use Rattle.iw44_slices.specs.Contexts.{Root}
use Rattle.iw44_slices.specs.Slice.{Place, Course, Ended, Asks, In, Plain, threshold_at, before_at, is_active, is_unknown, is_active_band, start_size, signed}
use Rattle.iw44_slices.specs.Slice.{raises, all_raises, starts, all_starts, choices, all_choices, blocks_course, does_something, slice_course}
use Rattle.iw44_slices.specs.Reading.{States, Reading, standing, read_on}
use Rattle.iw44_slices.specs.Sizes.{AreDue, Along}
use Rattle.iw44_slices.specs.Kept.{states_in}
use Rattle.iw44_blocks.specs.Words.{AreBits}
use Rattle.iw44_slices.specs.declared.contexts.Contexts.{Contexts}
use Rattle.iw44_slices.specs.declared.spots.Spot.{Spot}
use Rattle.iw44_slices.specs.declared.spots.Stage.{Stage}
use Rattle.iw44_slices.specs.declared.spots.Stage.TheVariants as stage

-- what only the reader itself reads
pub record Reader : Type 0 where
  pub contexts : Contexts
  pub spot : Spot

-- the states of the plane's contexts
abbrev pub states_of : Reader → States
states_of reader = states_in reader.contexts

abbrev pub place_at : ℕ → ℕ → Plane → Place
place_at slice block before = record { slice = slice; block = block; before = before }

-- the block at hand, the coefficients of which were these when its band began
abbrev pub place_in : Plane → Spot → Place
place_in before spot = place_at spot.number spot.block before

-- the number of the first bucket of a place's band, and how many the band has
abbrev pub first_at : Place → ℕ
first_at at = first_bucket (band_of at.slice)

abbrev pub count_at : Place → ℕ
count_at at = bucket_count (band_of at.slice)

-- the blocks behind the one at hand
abbrev pub later_blocks : Plane → Spot → Plane → Course
later_blocks plane spot after = blocks_course spot.number (block_count plane - (spot.block + 1)) (spot.block + 1) after

-- what was noted when a band began
pub record AreMarked (at : Place) (band : Bool) (actives unknowns : List ℕ) : Type 0 where
  pub activity : band ≡ is_active_band at
  pub active : (bucket : ℕ) → bucket < count_at at → AreBits (is_active at) 16 (16 * (first_at at + bucket)) (slice_index actives bucket)
  pub unknown : (bucket : ℕ) → bucket < count_at at → AreBits (is_unknown at) 16 (16 * (first_at at + bucket)) (slice_index unknowns bucket)

-- a slice that has begun, in one of so many blocks
pub record Begun (slice : ℕ) (at : Place) (blocks : ℕ) (band : Bool) (actives unknowns : List ℕ) : Type 0 where
  pub number : at.slice ≡ slice
  pub used : does_something at.slice ≡ true
  pub block : at.block < blocks
  pub marks : AreMarked at band actives unknowns

abbrev pub InBlock : ℕ → Plane → Plane → Spot → Type 0
InBlock slice before plane spot = Begun slice (place_in before spot) (block_count plane) spot.is_active spot.active spot.unknown

-- the active coefficients from one on are as they were when the band began
abbrev pub AreAsBefore : Place → Plane → ℕ → Type 0
AreAsBefore at plane from = (index : ℕ) → from ≤ index → is_active at index ≡ true → coefficient plane at.block index ≡ before_at at index

-- so many coefficients are left of a bucket of the band, from an index on, and the word has what the test says of them
pub record InBucket (at : Place) (test : ℕ → Bool) (count bucket index word : ℕ) : Type 0 where
  pub within : bucket < count_at at
  pub rest : count + index ≡ 16 * (first_at at + bucket) + 16
  pub low : 16 * (first_at at + bucket) ≤ index
  pub bits : AreBits test count index word

-- the buckets from one on of which the decision was 1
abbrev pub chosen_from : Place → List Bool → ℕ → List Bool
chosen_from at chosen bucket = drop bucket (take (count_at at) chosen)

-- what starts and raises are left, from a bucket on
abbrev pub from_bucket : Place → (Plane → Course) → List Bool → ℕ → Plane → Course
from_bucket at rest chosen bucket plane = all_starts at (all_raises at rest) (first_at at + bucket) (chosen_from at chosen bucket) plane

pub record AtRoot (at : Place) (rest : Plane → Course) (course : Course) : Type 0 where
  pub is : course ≡ Asks at.before (In Root) (λ bit. if bit then all_choices at rest else rest at.before)

pub record AtBucket (at : Place) (rest : Plane → Course) (bucket : ℕ) (chosen : List Bool) (course : Course) : Type 0 where
  pub within : bucket ≤ count_at at
  pub is : course ≡ choices at rest (count_at at - bucket) (first_at at + bucket) (take bucket chosen)

pub record AtChosen (at : Place) (rest : Plane → Course) (plane : Plane) (bucket : ℕ) (chosen : List Bool) (course : Course) : Type 0 where
  pub within : bucket ≤ count_at at
  pub before : AreAsBefore at plane (16 * first_at at)
  pub is : course ≡ from_bucket at rest chosen bucket plane

pub record AtStart (at : Place) (rest : Plane → Course) (plane : Plane) (spot : Spot) (course : Course) : Type 0 where
  pub count : ℕ
  pub here : InBucket at (is_unknown at) count spot.bucket spot.index spot.word
  pub before : AreAsBefore at plane (16 * first_at at)
  pub is : course ≡ starts at (from_bucket at rest spot.chosen (spot.bucket + 1)) (first_at at + spot.bucket) count spot.index spot.left plane

-- a coefficient starts, and its sign comes next
pub record AtSign (at : Place) (rest : Plane → Course) (plane : Plane) (spot : Spot) (course : Course) : Type 0 where
  pub count : ℕ
  pub here : InBucket at (is_unknown at) (suc count) spot.bucket spot.index spot.word
  pub unknown : is_unknown at spot.index ≡ true
  pub before : AreAsBefore at plane (16 * first_at at)
  pub is : course ≡ Asks plane Plain (λ negative. starts at (from_bucket at rest spot.chosen (spot.bucket + 1)) (first_at at + spot.bucket) count
      (spot.index + 1) 0
      (with_coefficient plane at.block spot.index (signed negative (start_size (threshold_at at spot.index)))))

pub record AtRaise (at : Place) (rest : Plane → Course) (plane : Plane) (spot : Spot) (course : Course) : Type 0 where
  pub count : ℕ
  pub here : InBucket at (is_active at) count spot.bucket spot.index spot.word
  pub before : AreAsBefore at plane spot.index
  pub is : course ≡ raises at rest (16 * first_at at + 16 * count_at at - spot.index) spot.index plane

-- a slice that hasn't begun; before a block, or behind the last one; and behind all of a slice
pub record BeforeSlice (slice : ℕ) (plane : Plane) (spot : Spot) (course : Course) : Type 0 where
  pub number : spot.number ≡ min slice 200
  pub is : course ≡ slice_course slice plane

pub record BeforeBlock (slice number block : ℕ) (plane : Plane) (course : Course) : Type 0 where
  pub same : number ≡ slice
  pub used : does_something number ≡ true
  pub within : block ≤ block_count plane
  pub is : course ≡ blocks_course number (block_count plane - block) block plane

pub record AtEnd (slice : ℕ) (plane : Plane) (spot : Spot) (course : Course) : Type 0 where
  pub number : spot.number ≡ min slice 200
  pub is : course ≡ Ended plane

-- what is left of a slice, by the stage of a reader and the coefficients as they are. From the third step of a block on it
-- is some plane that they were when its band began
abbrev pub LeftAt : Stage → ℕ → Course → Plane → Spot → Type 0
LeftAt stage.Slice slice course plane spot = BeforeSlice slice plane spot course
LeftAt stage.Block slice course plane spot = BeforeBlock slice spot.number spot.block plane course
LeftAt stage.Root slice course plane spot = InBlock slice plane plane spot × AtRoot (place_in plane spot) (later_blocks plane spot) course
LeftAt stage.Bucket slice course plane spot =
    InBlock slice plane plane spot × AtBucket (place_in plane spot) (later_blocks plane spot) spot.bucket spot.chosen course
LeftAt stage.Chosen slice course plane spot =
    (before : Plane) × (InBlock slice before plane spot × AtChosen (place_in before spot) (later_blocks plane spot) plane spot.bucket spot.chosen course)
LeftAt stage.Start slice course plane spot =
    (before : Plane) × (InBlock slice before plane spot × AtStart (place_in before spot) (later_blocks plane spot) plane spot course)
LeftAt stage.Sign slice course plane spot =
    (before : Plane) × (InBlock slice before plane spot × AtSign (place_in before spot) (later_blocks plane spot) plane spot course)
LeftAt stage.Raise slice course plane spot =
    (before : Plane) × (InBlock slice before plane spot × AtRaise (place_in before spot) (later_blocks plane spot) plane spot course)
LeftAt stage.End slice course plane spot = AtEnd slice plane spot course

unfoldable pub Left : ℕ → Course → Plane → Spot → Type 0
Left slice course plane spot = LeftAt spot.stage slice course plane spot

-- something is left, which may be all of a slice; of this plane, and of some plane
abbrev pub LeavesSome : Plane → Spot → Type 0
LeavesSome plane spot = (slice : ℕ) × (course : Course) × Left slice course plane spot

abbrev pub LeavesOfSome : Spot → Type 0
LeavesOfSome spot = (plane : Plane) × LeavesSome plane spot

-- coefficients are small as long as the slice goes on, and due at its end
abbrev pub StaySmall : ℕ → Course → Type 0
StaySmall slice course = Along (IsSmall 32767) (AreDue (slice + 1)) course

-- something is left, along which coefficients stay small
abbrev pub LeavesSmall : Plane → Spot → Type 0
LeavesSmall plane spot = (slice : ℕ) × (course : Course) × (Left slice course plane spot × StaySmall slice course)

-- in the slice with this number, of a plane with these coefficients, a reader has this left
unfoldable pub Stands : ℕ → Course → Plane → Reader → Type 0
Stands slice course plane reader = Left slice course plane reader.spot × StaySmall slice course

-- it has something left, which may be all of a slice
abbrev pub StandsSomewhere : Plane → Reader → Type 0
StandsSomewhere plane reader = (slice : ℕ) × (course : Course) × Stands slice course plane reader

-- what is left is read on, where a decoder took this payload and stands at this place, and so many decisions were read
abbrev pub reading_from : Course → Decoder → List ℕ → Option Interval → Reader → ℕ → Reading
reading_from course zp payload place reader decisions = read_on (chunk zp.table payload zp.ended) course (standing (states_of reader) place decisions)
