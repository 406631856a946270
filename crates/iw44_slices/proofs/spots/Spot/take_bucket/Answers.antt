use Rattle.std.proofs.Common.{◌<◌, length, arith}
use Rattle.iw44_slices.specs.Bands.{band_of}
use Rattle.iw44_slices.proofs.Moving.{bucket_moves}
use Rattle.iw44_slices.proofs.Naming.{bucket_open}
use Rattle.iw44_slices.proofs.Passing.{few_buckets}
use Rattle.iw44_slices.proofs.spots.Spot.take_bucket.Goals as goal

pub returns : goal.returns
returns c slice course plane left =
    let within = (bucket_open c.args.self.now c.requires.stage c.requires.settled).0 in
    let few = few_buckets (band_of c.args.self.now.number) in
    let inside : c.args.self.now.bucket < length c.args.self.now.chosen = omega (arith, within, few) in
    bucket_moves slice course plane c.args.self.now c.args.bit c.requires.stage c.requires.settled within inside left
