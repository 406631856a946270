use Rattle.once_board.proofs.board.Board.look.Given as goal

abbrev pub ghosts-take_turn : goal.ghosts-take_turn
ghosts-take_turn g a = record { owners = a.table.now.key }
