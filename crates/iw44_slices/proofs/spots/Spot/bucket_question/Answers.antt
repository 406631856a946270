use Rattle.std.proofs.Common.{◌≡◌, ◌+◌, ◌*◌, ℕ, ◌∙◌, ap}
use Rattle.std.specs.Prelude.{if◌then◌else◌}
use Rattle.iw44_slices.specs.Bands.{band_of}
use Rattle.iw44_slices.specs.Slice.{parents_in}
use Rattle.iw44_slices.specs.Reader.{place_in, first_at}
use Rattle.iw44_slices.proofs.Naming.{bucket_asked, bucket_block}
use Rattle.iw44_slices.proofs.spots.Spot.bucket_question.Goals as goal

pub near_parents-near-requires-clause-block : goal.near_parents-near-requires-clause-block
near_parents-near-requires-clause-block c =
    bucket_block c.requires.left.0 c.requires.left.1 c.args.coefficients.now c.args.self.now c.requires.stage c.requires.left.2

pub returns : goal.returns
returns c slice course left =
    let at = place_in c.args.coefficients.now c.args.self.now in
    let near : c.near_parents-near.result ≡ parents_in (band_of c.args.self.now.number) at (first_at at + c.args.self.now.bucket) =
    c.near_parents-near.ensures.is c.args.self.now.number
    ∙ (ap (λ (n : ℕ). parents_in n at (c.first_bucket.result + c.args.self.now.bucket)) c.band_of-band.ensures.is
    ∙ ap (λ (n : ℕ). parents_in (band_of c.args.self.now.number) at (n + c.args.self.now.bucket)) c.first_bucket.ensures.is) in
    let number : 18 + 8 * c.band_of-band.result + c.with_activity-number.result
    ≡ 18 + 8 * band_of c.args.self.now.number + (c.near_parents-near.result + (if c.args.self.now.is_active then 4 else 0)) =
    ap (λ (n : ℕ). 18 + 8 * n + c.with_activity-number.result) c.band_of-band.ensures.is
    ∙ ap (λ (n : ℕ). 18 + 8 * band_of c.args.self.now.number + n) c.with_activity-number.ensures in
    bucket_asked slice course c.args.coefficients.now c.args.self.now c.near_parents-near.result
    (18 + 8 * c.band_of-band.result + c.with_activity-number.result)
    c.requires.stage c.requires.settled c.near_parents-near.ensures.most near number left
