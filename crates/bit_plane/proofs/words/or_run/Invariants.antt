use Rattle.std.proofs.Common.{◌-◌, ◌≤◌}
use Rattle.bit_plane.proofs.RunSteps.{Ran}
use Rattle.bit_plane.proofs.words.or_run.Given as goal

abbrev pub invariant-loop-done : goal.invariant-loop-done
invariant-loop-done l = Ran l.initial.words l.words l.to l.other l.from l.done × (l.done ≤ l.count)

abbrev pub decreases-loop-done : goal.decreases-loop-done
decreases-loop-done l = l.count - l.done
