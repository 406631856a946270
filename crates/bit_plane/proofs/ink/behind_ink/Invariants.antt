use Rattle.std.proofs.Common.{◌≤◌}
use Rattle.bit_plane.proofs.InkLemmas.{WhiteFrom}
use Rattle.bit_plane.proofs.ink.behind_ink.Given as goal

abbrev pub invariant-loop-end : goal.invariant-loop-end
invariant-loop-end l = WhiteFrom l.words l.width l.height l.end × (l.end ≤ l.width)

abbrev pub decreases-loop-end : goal.decreases-loop-end
decreases-loop-end l = l.end
