use Rattle.once_board.proofs.board.Board.tell.Given as goal

abbrev pub ghosts-tell_seat : goal.ghosts-tell_seat
ghosts-tell_seat g a = record { owners = a.table.now.key }
