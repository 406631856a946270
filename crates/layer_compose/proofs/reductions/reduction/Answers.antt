use Rattle.std.proofs.Common.{arith, sym, ◌∙◌}
use Rattle.layer_compose.specs.Reduction.{is_reduced, reduction_of}
use Rattle.layer_compose.proofs.Reducing.{found_here, not_here, none_left}
use Rattle.layer_compose.proofs.reductions.reduction.Goals as goal

pub returns-then-is_reduced : goal.returns-then-is_reduced
returns-then-is_reduced c =
    sym (found_here (is_reduced c.args.page c.args.layer) c.loop-by.by (reduction_of c.args.page c.args.layer) (omega arith) c.loop-by.invariant
    (sym c.is_reduced.ensures ∙ c.if-is_reduced.true))

pub loop-by-preserved : goal.loop-by-preserved
loop-by-preserved c =
    not_here (is_reduced c.args.page c.args.layer) c.loop-by.by (reduction_of c.args.page c.args.layer) (omega arith) c.loop-by.invariant
    (sym c.is_reduced.ensures ∙ c.if-is_reduced.false)

pub returns : goal.returns
returns c = sym (none_left (is_reduced c.args.page c.args.layer) c.loop-by.by (reduction_of c.args.page c.args.layer) (omega arith) c.loop-by.invariant)
