use Rattle.std.proofs.Common.{◌≡◌, ◌*◌, ◌-◌, ◌%◌, ◌≤◌, ◌⊎◌}
use Rattle.layer_compose.proofs.SideSums.{sum_first}
use Rattle.layer_compose.proofs.sums.sum_on.Given as goal

abbrev pub invariant-loop-x : goal.invariant-loop-x
invariant-loop-x l = record {
  sum : l.total ≡ sum_first l.side l.mask l.layer l.by l.y l.x;
  most : l.total ≤ 765 * l.x;
  start : (l.x % l.run ≡ 0) ⊎ (l.x ≡ l.width);
  within : l.x ≤ l.width;
}

abbrev pub decreases-loop-x : goal.decreases-loop-x
decreases-loop-x l = l.width - l.x
