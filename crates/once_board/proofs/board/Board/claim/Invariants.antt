use Rattle.once_board.proofs.board.Board.claim.Given as goal

abbrev pub ghosts-claim_word : goal.ghosts-claim_word
ghosts-claim_word g a = record { owners = a.table.now.key }
