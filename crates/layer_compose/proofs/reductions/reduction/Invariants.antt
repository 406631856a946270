use Rattle.std.proofs.Common.{◌≡◌, ◌-◌}
use Rattle.layer_compose.specs.Reduction.{is_reduced, first_from, reduction_of}
use Rattle.layer_compose.proofs.reductions.reduction.Given as goal

abbrev pub invariant-loop-by : goal.invariant-loop-by
invariant-loop-by l = reduction_of l.page l.layer ≡ first_from (is_reduced l.page l.layer) l.by (13 - l.by)
