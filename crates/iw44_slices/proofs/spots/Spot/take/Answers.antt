use Rattle.std.proofs.Common.{arith}
use Rattle.iw44_slices.proofs.Moving.{end_moves, root_block}
use Rattle.iw44_slices.proofs.spots.Spot.take.Goals as goal

pub take_root-requires-clause-block : goal.take_root-requires-clause-block
take_root-requires-clause-block c =
    let some = c.requires.left in
    let within = root_block some.0 some.1 c.args.coefficients.now c.args.self.now c.in-Root.is some.2.0 in
    omega (arith, within, c.blocks-blocks.ensures.count)

pub returns-in-End-clause-left : goal.returns-in-End-clause-left
returns-in-End-clause-left c slice course left = end_moves slice course c.args.coefficients.now c.args.self.now c.args.bit c.in-End.is left
