use Rattle.once_board.proofs.board.Board.join.Given as goal

abbrev pub ghosts-join_seats : goal.ghosts-join_seats
ghosts-join_seats g a = record { owners = a.table.now.key }
