use Rattle.std.proofs.Common.{◌≡◌, ◌*◌, take}
use Rattle.layer_compose.specs.Drawing.{samples_by, sample_from_top}
use Rattle.layer_compose.proofs.layers.Layers.rows_by_steps.Given as goal

abbrev pub invariant-loop-row : goal.invariant-loop-row
invariant-loop-row l =
    take (3 * l.columns * l.row) l.out ≡ samples_by l.columns l.row (λ x y channel. sample_from_top l.self (x * l.step) (y * l.step) channel)
