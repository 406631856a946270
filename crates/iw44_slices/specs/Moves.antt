-- How a reader moves: to a decision, and by one.
use Rattle.std.specs.Prelude.{◌≡◌, ◌≢◌, ℕ, ◌+◌, ◌-◌, ◌*◌, ◌%◌, ◌≤◌, ◌==◌, Bool, true, false, not, ◌&&◌, nat_lt, List, length, slice_index, Option}
use Rattle.std.specs.Prelude.{Some, None}
use Rattle.djvu_base.specs.Meter.{TicksExactly}
use Rattle.zp_decoder.specs.Decision.{Interval}
use Rattle.zp_decoder.specs.Decoder.{Decoder, Fed, room_left}
use Rattle.zp_decoder.specs.States.{AreBelow}
use Rattle.iw44_blocks.specs.Plane.{Plane, block_count}
use Rattle.iw44_slices.specs.Bands.{band_of, first_bucket, bucket_count}
use Rattle.iw44_slices.specs.Slice.{Course, Ended, Asks, slice_course}
use Rattle.iw44_slices.specs.Reading.{plane_of, stands, standing}
use Rattle.iw44_slices.specs.Kept.{Names}
use Rattle.iw44_slices.specs.Reader.{Reader, Stands, StandsSomewhere, reading_from, states_of}
use Rattle.iw44_slices.specs.declared.contexts.Question.{Question}
use Rattle.iw44_slices.specs.declared.steps.SliceStep.{SliceStep}
use Rattle.iw44_slices.specs.declared.steps.SliceStep.TheVariants as step
use Rattle.iw44_slices.specs.declared.spots.Spot.{Spot}
use Rattle.iw44_slices.specs.declared.spots.Stage.{Stage}
use Rattle.iw44_slices.specs.declared.spots.Stage.TheVariants as stage

-- whether a decision comes next, or nothing is left of the slice
abbrev pub is_settled_at : Stage → Spot → Bool
is_settled_at stage.Slice spot = false
is_settled_at stage.Block spot = false
is_settled_at stage.Root spot = true
is_settled_at stage.Bucket spot = nat_lt spot.bucket (bucket_count (band_of spot.number)) && not (slice_index spot.unknown spot.bucket == 0)
is_settled_at stage.Chosen spot = false
is_settled_at stage.Start spot = spot.word % 2 == 1
is_settled_at stage.Sign spot = true
is_settled_at stage.Raise spot = spot.word % 2 == 1
is_settled_at stage.End spot = true

abbrev pub is_settled : Spot → Bool
is_settled spot = is_settled_at spot.stage spot

-- how a decision comes next
abbrev pub IsAsked : Course → Question → Type 0
IsAsked (Ended plane) question = ⊥
IsAsked (Asks plane asked next) question = Names asked question

-- a decision comes next, which is read in this way, or nothing is left
abbrev pub ComesNext : Course → Option Question → Type 0
ComesNext course None = (plane : Plane) × (course ≡ Ended plane)
ComesNext course (Some question) = IsAsked course question

-- what is left after a bit
abbrev pub after_bit : Course → Bool → Course
after_bit (Ended plane) bit = Ended plane
after_bit (Asks plane asked next) bit = next bit

-- steps that lead to a decision lower this number: blocks count most, then stages, buckets and coefficients
abbrev pub of_blocks : Plane → ℕ → ℕ
of_blocks plane block = 4096 * (block_count plane - block)

abbrev pub of_bucket : Spot → ℕ → ℕ
of_bucket spot left = 20 * (16 - spot.bucket) + left

abbrev pub left_in_bucket : Spot → ℕ
left_in_bucket spot = 16 * (first_bucket (band_of spot.number) + spot.bucket) + 16 - spot.index

abbrev pub steps_at : Stage → Plane → Spot → ℕ
steps_at stage.Slice plane spot = of_blocks plane 0 + 3001
steps_at stage.Block plane spot = of_blocks plane spot.block + 3000
steps_at stage.Root plane spot = 0
steps_at stage.Bucket plane spot = of_blocks plane spot.block + 2000 + (16 - spot.bucket)
steps_at stage.Chosen plane spot = of_blocks plane spot.block + 1000 + of_bucket spot 19
steps_at stage.Start plane spot = of_blocks plane spot.block + 1000 + of_bucket spot (left_in_bucket spot)
steps_at stage.Sign plane spot = 0
steps_at stage.Raise plane spot = of_blocks plane spot.block + of_bucket spot (left_in_bucket spot)
steps_at stage.End plane spot = 0

abbrev pub steps_left : Plane → Spot → ℕ
steps_left plane spot = steps_at spot.stage plane spot

-- what was left before is read on as this is from here, after so many decisions
pub record ReadsOn (slice decisions : ℕ) (payload : List ℕ) (course : Course) (place : Option Interval) (old_reader : Reader) (old : Decoder) (before : ℕ)
    (plane : Plane) (reader : Reader) (zp : Decoder) (count : ℕ) : Type 0 where
  pub left : Course
  pub here : Option Interval
  pub number : ℕ
  pub stands : Stands slice left plane reader
  pub fed : Fed payload here zp
  pub grows : decisions ≤ number
  pub ticks : TicksExactly (number - decisions) before count
  pub same : reading_from course old payload place old_reader decisions ≡ reading_from left zp payload here reader number

-- what a reader keeps while it goes from decision to decision
pub record Keeps (old_plane : Plane) (old_reader : Reader) (old : Decoder) (before : ℕ) (plane : Plane) (reader : Reader) (zp : Decoder)
    (count : ℕ) : Type 0 where
  pub reads : (slice decisions : ℕ) (payload : List ℕ) (course : Course) (place : Option Interval) → Stands slice course old_plane old_reader →
      Fed payload place old →
      ReadsOn slice decisions payload course place old_reader old before plane reader zp count
  pub somewhere : StandsSomewhere plane reader
  pub table : zp.table ≡ old.table
  pub ended : zp.ended ≡ old.ended
  pub below : AreBelow (length zp.table) (states_of reader)
  pub room : room_left zp ≤ room_left old
  pub width : plane.width ≡ old_plane.width
  pub height : plane.height ≡ old_plane.height

-- what was left before is read to here, with this answer
pub record EndsAt (slice decisions : ℕ) (payload : List ℕ) (course : Course) (place : Option Interval) (old_reader : Reader) (old : Decoder) (before : ℕ)
    (plane : Plane) (reader : Reader) (zp : Decoder) (count : ℕ) (answer : SliceStep) : Type 0 where
  pub left : Course
  pub here : Option Interval
  pub number : ℕ
  pub reading : reading_from course old payload place old_reader decisions ≡ stands answer left (standing (states_of reader) here number)
  pub tells : plane_of left ≡ plane
  pub fed : Fed payload here zp
  pub ticks : TicksExactly (number - decisions) before count
  pub rest : answer ≢ step.SliceEnd → Stands slice left plane reader
  pub next : answer ≡ step.SliceEnd → Stands (slice + 1) (slice_course (slice + 1) plane) plane reader
