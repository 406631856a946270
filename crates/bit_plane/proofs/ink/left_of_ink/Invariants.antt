use Rattle.std.proofs.Common.{◌-◌, ◌≤◌}
use Rattle.bit_plane.proofs.InkLemmas.{WhiteBefore}
use Rattle.bit_plane.proofs.ink.left_of_ink.Given as goal

abbrev pub invariant-loop-x : goal.invariant-loop-x
invariant-loop-x l = WhiteBefore l.words l.width l.height l.x × (l.x ≤ l.width)

abbrev pub decreases-loop-x : goal.decreases-loop-x
decreases-loop-x l = l.width - l.x
