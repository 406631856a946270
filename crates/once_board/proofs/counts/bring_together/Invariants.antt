use Rattle.once_board.proofs.Counting.{Bringing}
use Rattle.once_board.proofs.counts.bring_together.Given as goal

abbrev pub invariant-loop-row : goal.invariant-loop-row
invariant-loop-row l = Bringing l.row l.initial.counts l.others l.counts
