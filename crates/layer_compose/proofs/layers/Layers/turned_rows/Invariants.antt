use Rattle.std.proofs.Common.{◌≡◌, ◌*◌, take}
use Rattle.layer_compose.specs.Drawing.{rows_of, drawing_width}
use Rattle.layer_compose.proofs.layers.Layers.turned_rows.Given as goal

abbrev pub invariant-loop-row : goal.invariant-loop-row
invariant-loop-row l = take (3 * drawing_width l.self * l.row) l.out ≡ rows_of l.self l.from l.row
