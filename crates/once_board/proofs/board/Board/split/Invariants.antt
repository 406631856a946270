use Rattle.once_board.proofs.board.Board.split.Given as goal

abbrev pub ghosts-split_seat : goal.ghosts-split_seat
ghosts-split_seat g a = record { right = a.right }
