use Rattle.std.proofs.Common.{◌-◌, ◌≤◌}
use Rattle.bit_plane.specs.Pixels.{is_black_at}
use Rattle.layer_compose.specs.Drawing.{layer_sample}
use Rattle.layer_compose.specs.Laying.{Lays}
use Rattle.layer_compose.proofs.Masking.{first}
use Rattle.layer_compose.proofs.rows.lay_masked.Given as goal

abbrev pub invariant-loop-x : goal.invariant-loop-x
invariant-loop-x l = record {
  lays : Lays (first l.x (λ p. is_black_at l.mask p l.y)) (λ x channel. layer_sample l.front 0 l.by x l.y channel) l.initial.out l.out;
  within : l.x ≤ l.width;
}

abbrev pub decreases-loop-x : goal.decreases-loop-x
decreases-loop-x l = l.width - l.x
