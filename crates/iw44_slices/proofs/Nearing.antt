-- Steps that lead to a decision come to an end, and stay within a block.
use Rattle.std.proofs.Common.{◌≡◌, ℕ, suc, ◌+◌, ◌*◌, ◌/◌, ◌<◌, ◌≤◌, Bool, ap, arith}
use Rattle.iw44_blocks.specs.Plane.{Plane, block_count}
use Rattle.iw44_slices.specs.Bands.{band_of, first_bucket, bucket_count}
use Rattle.iw44_slices.specs.Slice.{Course, is_active, is_unknown}
use Rattle.iw44_slices.specs.Reader.{place_in, InBucket, Left}
use Rattle.iw44_slices.specs.Moves.{steps_at, steps_left}
use Rattle.iw44_slices.specs.declared.spots.Spot.{Spot}
use Rattle.iw44_slices.specs.declared.spots.Stage.{Stage}
use Rattle.iw44_slices.specs.declared.spots.Stage.TheVariants as stage
use Rattle.iw44_slices.proofs.Passing.{passed, in_block}
use Rattle.iw44_slices.proofs.Standing.{stands_at}

-- where a reader stands in a bucket
pub record Inside (spot : Spot) : Type 0 where
  pub bucket : spot.bucket < 16
  pub counted : spot.bucket < bucket_count (band_of spot.number)
  pub low : 16 * (first_bucket (band_of spot.number) + spot.bucket) ≤ spot.index
  pub index : 0 < spot.word → spot.index < 1024
  pub last : 0 < spot.word → spot.index < 16 * (first_bucket (band_of spot.number) + spot.bucket) + 16

inside : (before : Plane) (test : ℕ → Bool) (count : ℕ) (spot : Spot) → InBucket (place_in before spot) test count spot.bucket spot.index spot.word →
    Inside spot
inside before test count spot here =
    let all = in_block (place_in before spot) test count spot.bucket spot.index spot.word here in
    let few = all.0 in
    let most = all.1 in
    record {
      bucket = few;
      counted = here.within;
      low = here.low;
      index = λ some. (let next = passed (place_in before spot) test count spot.bucket spot.index spot.word some here in let one = next.one in omega arith);
      last = λ some. (let next = passed (place_in before spot) test count spot.bucket spot.index spot.word some here in let one = next.one in
          let rest = here.rest in omega arith);
    }

pub start_inside : (slice : ℕ) (course : Course) (plane : Plane) (spot : Spot) → spot.stage ≡ stage.Start → Left slice course plane spot → Inside spot
start_inside slice course plane spot e left =
    let is = stands_at stage.Start slice course plane spot e left in
    inside is.0 (is_unknown (place_in is.0 spot)) is.1.1.count spot is.1.1.here

pub sign_inside : (slice : ℕ) (course : Course) (plane : Plane) (spot : Spot) → spot.stage ≡ stage.Sign → Left slice course plane spot →
    (spot.index < 1024) × (spot.block < block_count plane)
sign_inside slice course plane spot e left =
    let is = stands_at stage.Sign slice course plane spot e left in
    let all = in_block (place_in is.0 spot) (is_unknown (place_in is.0 spot)) (suc is.1.1.count) spot.bucket spot.index spot.word is.1.1.here in
    let most = all.1 in
    (omega arith, is.1.0.block)

pub raise_inside : (slice : ℕ) (course : Course) (plane : Plane) (spot : Spot) → spot.stage ≡ stage.Raise → Left slice course plane spot →
    Inside spot × (spot.block < block_count plane)
raise_inside slice course plane spot e left =
    let is = stands_at stage.Raise slice course plane spot e left in
    (inside is.0 (is_active (place_in is.0 spot)) is.1.1.count spot is.1.1.here, is.1.0.block)

-- steps, where the stage is known
by_stage : (s : Stage) (plane : Plane) (spot : Spot) → spot.stage ≡ s → steps_left plane spot ≡ steps_at s plane spot
by_stage s plane spot e = ap (λ (x : Stage). steps_at x plane spot) e

pub start_passes_nearer : (plane : Plane) (spot : Spot) → spot.stage ≡ stage.Start → 0 < spot.word → Inside spot →
    steps_left plane (record spot { word = spot.word / 2; index = spot.index + 1 }) < steps_left plane spot
start_passes_nearer plane spot e some is =
    let new : Spot = record spot { word = spot.word / 2; index = spot.index + 1 } in
    let old_steps = by_stage stage.Start plane spot e in
    let new_steps = by_stage stage.Start plane new e in
    let last = is.last some in
    omega (arith, old_steps, new_steps)

pub starts_over_nearer : (plane : Plane) (spot : Spot) → spot.stage ≡ stage.Start → Inside spot →
    steps_left plane (record spot { stage = stage.Chosen; bucket = spot.bucket + 1 }) < steps_left plane spot
starts_over_nearer plane spot e is =
    let old_steps = by_stage stage.Start plane spot e in
    let few = is.bucket in
    omega (arith, old_steps)

pub raise_passes_nearer : (plane : Plane) (spot : Spot) → spot.stage ≡ stage.Raise → 0 < spot.word → Inside spot →
    steps_left plane (record spot { word = spot.word / 2; index = spot.index + 1 }) < steps_left plane spot
raise_passes_nearer plane spot e some is =
    let new : Spot = record spot { word = spot.word / 2; index = spot.index + 1 } in
    let old_steps = by_stage stage.Raise plane spot e in
    let new_steps = by_stage stage.Raise plane new e in
    let last = is.last some in
    omega (arith, old_steps, new_steps)

pub raises_go_on_nearer : (plane : Plane) (spot : Spot) (word : ℕ) → spot.stage ≡ stage.Raise → Inside spot →
    steps_left plane (record spot {
      stage = stage.Raise;
      bucket = spot.bucket + 1;
      word = word;
      index =
          16 * (first_bucket (band_of spot.number) + (spot.bucket + 1));
    }) < steps_left plane spot
raises_go_on_nearer plane spot word e is =
    let old_steps = by_stage stage.Raise plane spot e in
    let few = is.bucket in
    omega (arith, old_steps)

pub raises_over_nearer : (plane : Plane) (spot : Spot) → spot.stage ≡ stage.Raise → spot.block < block_count plane →
    steps_left plane (record spot { stage = stage.Block; block = spot.block + 1 }) < steps_left plane spot
raises_over_nearer plane spot e within =
    let old_steps = by_stage stage.Raise plane spot e in
    omega (arith, old_steps)
