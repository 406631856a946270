use Rattle.once_board.proofs.Lemmas.{ends_prefix, put_ends}
use Rattle.data_pool.specs.Pieces.{is_end}
use Rattle.data_pool.specs.Pools.{row_board, row_seat}
use Rattle.data_pool.proofs.laws.files_end_by_their_last_piece.Goals as goal

pub returns-clause-put : goal.returns-clause-put
returns-clause-put c = λ pool feeder file feeds. put_ends is_end 2_049 (row_board pool) (row_seat feeder) file feeds

pub returns-clause-prefix : goal.returns-clause-prefix
returns-clause-prefix c = λ xs ys prefix ends. ends_prefix is_end xs ys prefix ends
