use Rattle.std.proofs.Common.{◌<◌, ◌≤◌, sym, ◌∙◌, arith}
use Rattle.iw44_blocks.specs.Plane.{block_count}
use Rattle.iw44_slices.proofs.Standing.{block_has_root, block_has_none, blocks_are_over}
use Rattle.iw44_slices.proofs.spots.Spot.begin_block.Goals as goal

pub returns-then-self-blocks-clause-left : goal.returns-then-self-blocks-clause-left
returns-then-self-blocks-clause-left c slice course left =
    let all : block_count c.args.coefficients.now ≤ c.args.self.now.block = omega (arith, c.blocks-2.ensures.count, c.if-self-blocks.true) in
    blocks_are_over slice course c.args.coefficients.now c.args.self.now c.requires all left

pub returns-then-has_root-clause-left : goal.returns-then-has_root-clause-left
returns-then-has_root-clause-left c slice course left =
    let within : c.args.self.now.block < block_count c.args.coefficients.now = omega (arith, c.blocks-2.ensures.count, c.if-self-blocks.false) in
    block_has_root slice course c.args.coefficients.now c.args.self.now c.mark.new.self c.requires within c.mark.ensures.number c.mark.ensures.block
    c.mark.ensures.marks
    (sym c.has_root.ensures ∙ c.if-has_root.true) left

pub returns-else-has_root-clause-left : goal.returns-else-has_root-clause-left
returns-else-has_root-clause-left c slice course left =
    let within : c.args.self.now.block < block_count c.args.coefficients.now = omega (arith, c.blocks-2.ensures.count, c.if-self-blocks.false) in
    block_has_none slice course c.args.coefficients.now c.args.self.now c.mark.new.self c.requires within c.mark.ensures.number c.mark.ensures.block
    c.mark.ensures.marks
    (sym c.has_root.ensures ∙ c.if-has_root.false) left
