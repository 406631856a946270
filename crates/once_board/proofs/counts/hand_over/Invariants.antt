use Rattle.std.proofs.Common.{Some}
use Rattle.once_board.proofs.Counting.{Handing}
use Rattle.once_board.proofs.counts.hand_over.Given as goal

abbrev pub invariant-loop-row : goal.invariant-loop-row
invariant-loop-row l = Handing (Some l.right) l.rights l.row l.initial.counts l.counts l.off
