use Rattle.std.proofs.Common.{◌<◌, ◌≤◌, length, get_or, sym, subst, refl, arith}
use Rattle.std.specs.Int.Count.{ones}
use Rattle.iw44_slices.specs.Bands.{band_of, bucket_count}
use Rattle.iw44_slices.specs.Reader.{Left}
use Rattle.iw44_slices.specs.declared.spots.Spot.{Spot}
use Rattle.iw44_slices.proofs.Passing.{chosen_passes, chosen_opens, raises_begin}
use Rattle.iw44_slices.proofs.spots.Spot.skip_chosen.Goals as goal

pub returns-then-self-bucket_count-clause-left : goal.returns-then-self-bucket_count-clause-left
returns-then-self-bucket_count-clause-left c slice course plane left =
    let all : bucket_count (band_of c.args.self.now.number) ≤ c.args.self.now.bucket = omega (arith, c.bucket_count.ensures.is, c.if-self-bucket_count.true) in
    let some : 0 < bucket_count (band_of c.args.self.now.number) = omega (arith, c.bucket_count.ensures.is, c.bucket_count.ensures.some) in
    subst (λ (spot : Spot). Left slice course plane spot) (sym c.open.ensures) (raises_begin slice course plane c.args.self.now c.requires all some left)

pub returns-then-self-clause-left : goal.returns-then-self-clause-left
returns-then-self-clause-left c slice course plane left =
    let h = c.open-then-self.ensures in
    let within : c.args.self.now.bucket < bucket_count (band_of c.args.self.now.number) =
    omega (arith, c.bucket_count.ensures.is, c.if-self-bucket_count.false) in
    let full : bucket_count (band_of c.args.self.now.number) ≤ length c.args.self.now.chosen =
    omega (arith, c.bucket_count.ensures.is, c.bucket_count.ensures.most) in
    subst (λ (spot : Spot). Left slice course plane spot) (sym c.open-then-self.ensures)
    (chosen_opens slice course plane c.args.self.now (ones (get_or c.args.self.now.unknown c.args.self.now.bucket 0)) c.requires within full c.if-self.true
    refl left)

pub returns-else-self-clause-left : goal.returns-else-self-clause-left
returns-else-self-clause-left c slice course plane left =
    let within : c.args.self.now.bucket < bucket_count (band_of c.args.self.now.number) =
    omega (arith, c.bucket_count.ensures.is, c.if-self-bucket_count.false) in
    let full : bucket_count (band_of c.args.self.now.number) ≤ length c.args.self.now.chosen =
    omega (arith, c.bucket_count.ensures.is, c.bucket_count.ensures.most) in
    chosen_passes slice course plane c.args.self.now c.requires within full c.if-self.false left
