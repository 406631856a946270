use Rattle.std.proofs.Common.{◌≡◌, List, ◌++◌, All}
use Rattle.once_board.specs.Gathered.{Gathered}
use Rattle.board_tests.specs.declared.passes.Pass.{Pass}
use Rattle.board_tests.specs.Passes.{hold_of, IsPass}
use Rattle.board_tests.proofs.passes.join_passes.Given as goal

abbrev pub invariant-loop-pass : goal.invariant-loop-pass
invariant-loop-pass l = (done : List Pass) × (l.initial.passes.items ≡ l.passes.items ++ done) × (l.seat.board ≡ l.board.board)
    × All (IsPass l.board) l.passes.items
    × Gathered hold_of l.board.owners l.initial.seat.hold done l.seat.hold

abbrev pub decreases-loop-pass : goal.decreases-loop-pass
decreases-loop-pass l = goal.left-loop-pass l
