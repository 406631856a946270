use Rattle.std.proofs.Common.{◌≡◌, ◌/◌, ◌^◌}
use Rattle.layer_compose.specs.Drawing.{layer_sample}
use Rattle.layer_compose.specs.Laying.{Lays, in_run}
use Rattle.layer_compose.proofs.rows.lay_digits.Given as goal

abbrev pub invariant-loop-rest : goal.invariant-loop-rest
invariant-loop-rest l = record {
  left : l.rest ≡ l.digits / 2 ^ l.done;
  lays : Lays (in_run l.digits l.from l.done) (λ x channel. layer_sample l.front 0 l.by x l.y channel) l.initial.out l.out;
}

abbrev pub decreases-loop-rest : goal.decreases-loop-rest
decreases-loop-rest l = l.rest
