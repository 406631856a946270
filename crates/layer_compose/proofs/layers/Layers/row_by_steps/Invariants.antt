use Rattle.std.proofs.Common.{◌*◌}
use Rattle.layer_compose.specs.Drawing.{sample_from_top}
use Rattle.layer_compose.specs.Laying.{Lays, below}
use Rattle.layer_compose.proofs.layers.Layers.row_by_steps.Given as goal

abbrev pub invariant-loop-x : goal.invariant-loop-x
invariant-loop-x l = Lays (below l.x) (λ p channel. sample_from_top l.self (p * l.step) l.y channel) l.initial.out l.out
