use Rattle.std.proofs.Common.{◌-◌, ◌*◌, arith}
use Rattle.iw44_blocks.specs.Plane.{coefficient}
use Rattle.iw44_blocks.specs.Words.{is_zero, is_some}
use Rattle.iw44_slices.specs.Bands.{is_in_use, threshold}
use Rattle.iw44_slices.specs.Slice.{is_active, is_unknown}
use Rattle.iw44_slices.specs.Reader.{place_at}
use Rattle.iw44_slices.proofs.Bits.{bits_not, bits_same, and_is, same_and}
use Rattle.iw44_slices.proofs.words.words_of.Goals as goal

pub returns-then-is_uniform-clause-active : goal.returns-then-is_uniform-clause-active
returns-then-is_uniform-clause-active c =
    let at = place_at c.args.number c.args.block c.args.coefficients.now in
    let used = c.is_uniform.ensures c.if-is_uniform.true in
    bits_same (is_some c.args.coefficients.now c.args.block) (is_active at) 16 (16 * c.args.bucket) c.nonzero-active.result c.nonzero-active.ensures
    (λ i. and_is (is_in_use (threshold c.args.number i)) (is_some c.args.coefficients.now c.args.block i) (used i))

pub returns-then-is_uniform-clause-unknown : goal.returns-then-is_uniform-clause-unknown
returns-then-is_uniform-clause-unknown c =
    let at = place_at c.args.number c.args.block c.args.coefficients.now in
    let used = c.is_uniform.ensures c.if-is_uniform.true in
    bits_not (is_some c.args.coefficients.now c.args.block) (is_unknown at) 16 (16 * c.args.bucket) c.nonzero-active.result (65535 - c.nonzero-active.result)
    c.nonzero-active.ensures (omega arith)
    (λ i. same_and (is_in_use (threshold c.args.number i)) (is_zero (coefficient c.args.coefficients.now c.args.block i)) (used i))
