use Rattle.std.proofs.Common.{◌≡◌, ◌≤◌, ◌+◌, ◌-◌, ◌*◌, take}
use Rattle.layer_compose.specs.Drawing.{samples_by, coded_sample}
use Rattle.layer_compose.proofs.layers.Layers.upright_rows.Given as goal

abbrev pub invariant-loop-done : goal.invariant-loop-done
invariant-loop-done l = record {
  within : l.done ≤ l.count;
  rows : take (3 * l.self.width * l.done) l.out ≡ samples_by l.self.width l.done (λ x row channel. coded_sample l.self x (l.from + row) channel);
}

abbrev pub decreases-loop-done : goal.decreases-loop-done
decreases-loop-done l = l.count - l.done
