use Rattle.std.proofs.Common.{◌≡◌, ℕ, ◌+◌, ◌*◌, subst, arith, inl, inr}
use Rattle.std.proofs.lemmas.Bool.{cases_lt}
use Rattle.iw44_blocks.specs.Plane.{coefficient}
use Rattle.iw44_blocks.specs.Words.{AreBits, is_zero, is_some}
use Rattle.iw44_slices.proofs.Bits.{none_of_zero, zeros_of_none}
use Rattle.iw44_slices.proofs.words.is_blank.Goals as goal

pub loop-bucket-preserved : goal.loop-bucket-preserved
loop-bucket-preserved c k below =
    let plane = c.args.coefficients.now in
    let from : ℕ = 16 * (c.args.first + c.loop-bucket.bucket) in
    let index : ℕ = 16 * c.args.first + k in
    let none : c.nonzero.result ≡ 0 = omega arith in
    elim (cases_lt k (16 * c.loop-bucket.bucket)) [
      | inl earlier ↦ c.loop-bucket.invariant k earlier
      | inr here ↦ zeros_of_none (is_zero (coefficient plane c.args.block index))
          (none_of_zero (is_some plane c.args.block) 16 from index
          (subst (λ (w : ℕ). AreBits (is_some plane c.args.block) 16 from w) none c.nonzero.ensures) (omega arith) (omega arith))
    ]
