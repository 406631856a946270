use Rattle.std.proofs.Common.{length, drop, ◌-◌, ◌≡◌, ◌+◌}
use Rattle.iff_chunks.specs.Start.{common_front}
use Rattle.iff_chunks.proofs.fronts.common_front.Given as goal

-- what is left has in common what the whole has, less what was passed
abbrev pub invariant-loop-common : goal.invariant-loop-common
invariant-loop-common l = l.common + common_front (drop l.common l.wanted) (drop l.common l.bytes) ≡ common_front l.wanted l.bytes

abbrev pub decreases-loop-common : goal.decreases-loop-common
decreases-loop-common l = length l.wanted - l.common
