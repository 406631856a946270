use Rattle.std.proofs.Common.{◌≡◌, ◌<◌, ◌+◌, ◌*◌, ℕ, true, subst, arith}
use Rattle.std.proofs.lemmas.List.{get_or-replicate}
use Rattle.iw44_blocks.specs.Plane.{coefficient}
use Rattle.iw44_slices.specs.Slice.{Place}
use Rattle.iw44_blocks.specs.Words.{is_zero}
use Rattle.iw44_slices.specs.Reader.{place_in, first_at, count_at}
use Rattle.iw44_slices.proofs.Passing.{blank_marks}
use Rattle.iw44_slices.proofs.spots.Spot.mark.Goals as goal

pub returns-then-is_blank-clause-marks : goal.returns-then-is_blank-clause-marks
returns-then-is_blank-clause-marks c =
    let at : Place = place_in c.args.coefficients.now c.args.self.now in
    let used = c.is_uniform.ensures c.if-is_uniform.true in
    let blank : (place : ℕ) → place < 16 * count_at at →
    is_zero (coefficient c.args.coefficients.now c.args.self.now.block (16 * first_at at + place)) ≡ true =
    λ place low.
    subst (λ (n : ℕ). is_zero (coefficient c.args.coefficients.now c.args.self.now.block (16 * n + place)) ≡ true) c.first_bucket-first.ensures.is
    (c.is_blank.ensures c.if-is_blank.true place (omega (arith, low, c.bucket_count-count.ensures.is))) in
    blank_marks at _ _ used blank (λ k low. get_or-replicate 16 k 0 0 low) (λ k low. get_or-replicate 16 k 65535 0 low)
