use Rattle.std.proofs.Common.{◌<◌, length, arith}
use Rattle.std.proofs.lemmas.Bool.Decides.{nat_tests}
use Rattle.iff_chunks.proofs.Passing.{data_part, data_all}
use Rattle.iff_chunks.proofs.chunks.data.Goals as goal

pub returns-then-piece-left : goal.returns-then-piece-left
returns-then-piece-left c =
    let some : 0 < length c.args.piece.now = grind (arith, nat_tests) in
    data_part c.args.chunk c.args.left c.args.piece.now some c.if-piece-left.true c.requires.part c.requires.fits

pub returns-else-piece-left : goal.returns-else-piece-left
returns-else-piece-left c = data_all c.args.chunk c.args.left c.args.piece.now c.requires.some c.if-piece-left.false c.requires.fits
