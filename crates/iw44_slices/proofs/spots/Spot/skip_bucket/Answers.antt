use Rattle.std.proofs.Common.{◌<◌, ◌≤◌, length, arith}
use Rattle.iw44_slices.specs.Bands.{band_of, bucket_count}
use Rattle.iw44_slices.proofs.Passing.{bucket_passes, buckets_are_over}
use Rattle.iw44_slices.proofs.spots.Spot.skip_bucket.Goals as goal

pub returns-then-self-bucket_count-clause-left : goal.returns-then-self-bucket_count-clause-left
returns-then-self-bucket_count-clause-left c slice course plane left =
    let inside : c.args.self.now.bucket < length c.args.self.now.chosen = omega arith in
    let within : c.args.self.now.bucket < bucket_count (band_of c.args.self.now.number) =
    omega (arith, c.bucket_count.ensures.is, c.if-self-bucket_count.true) in
    bucket_passes slice course plane c.args.self.now c.requires.stage c.requires.open within inside left

pub returns-else-self-bucket_count-clause-left : goal.returns-else-self-bucket_count-clause-left
returns-else-self-bucket_count-clause-left c slice course plane left =
    let all : bucket_count (band_of c.args.self.now.number) ≤ c.args.self.now.bucket =
    omega (arith, c.bucket_count.ensures.is, c.if-self-bucket_count.false) in
    buckets_are_over slice course plane c.args.self.now c.requires.stage all left
