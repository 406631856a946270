use Rattle.once_board.proofs.OwnerLists.{GoRound}
use Rattle.once_board.proofs.owners.row_owners.Given as goal

abbrev pub invariant-loop-place : goal.invariant-loop-place
invariant-loop-place l = GoRound l.width l.rights l.place l.owners.items
