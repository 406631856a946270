use Rattle.std.proofs.Common.{ℕ, ◌*◌, ◌/◌, ◌%◌, ◌^◌, refl, arith}
use Rattle.std.specs.Int.Count.{ones-le}
use Rattle.iw44_blocks.specs.Words.{is_some}
use Rattle.iw44_slices.proofs.Bits.{ones_are, parents_word}
use Rattle.iw44_slices.proofs.words.parents.Goals as goal

pub returns-clause-is : goal.returns-clause-is
returns-clause-is c number =
    let test = is_some c.args.coefficients.now c.args.block in
    let four : ℕ = c.nonzero.result / 2 ^ (4 * (c.args.bucket % 4)) % 16 in
    ones_are test 4 (4 * c.args.bucket) four (parents_word test c.args.bucket c.nonzero.result four c.nonzero.ensures refl)

pub returns-clause-most : goal.returns-clause-most
returns-clause-most c = ones-le 4 (c.nonzero.result / 2 ^ (4 * (c.args.bucket % 4)) % 16) (omega arith)
