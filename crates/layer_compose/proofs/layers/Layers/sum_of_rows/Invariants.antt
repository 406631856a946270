use Rattle.std.proofs.Common.{◌≡◌, ◌*◌, ◌≤◌}
use Rattle.layer_compose.proofs.Summing.{rows_total}
use Rattle.layer_compose.proofs.layers.Layers.sum_of_rows.Given as goal

abbrev pub invariant-loop-y : goal.invariant-loop-y
invariant-loop-y l = record { sum : l.total ≡ rows_total l.self l.y; most : l.total ≤ 1530 * l.self.width * l.y }
