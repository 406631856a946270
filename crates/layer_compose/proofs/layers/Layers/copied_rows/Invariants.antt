use Rattle.std.proofs.Common.{◌≡◌, ◌-◌, ◌*◌, take}
use Rattle.layer_compose.specs.Drawing.{samples_by, sample_at}
use Rattle.layer_compose.proofs.layers.Layers.copied_rows.Given as goal

abbrev pub invariant-loop-row : goal.invariant-loop-row
invariant-loop-row l = take (3 * l.self.width * l.row) l.out ≡ samples_by l.self.width l.row (λ x r channel. sample_at l.self x (l.y - r) channel)
