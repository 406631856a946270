use Rattle.once_board.proofs.Lemmas.{all_known, no_more}
use Rattle.data_pool.specs.Pieces.{is_end}
use Rattle.data_pool.specs.Pools.{row_board, row_seat}
use Rattle.data_pool.proofs.laws.joined_seats_know_all.Goals as goal

pub returns-clause-all : goal.returns-clause-all
returns-clause-all c = λ pool feeder all file feeds knows. all_known is_end 2_049 (row_board pool) (row_seat feeder) file feeds all knows

pub returns-clause-nothing_else : goal.returns-clause-nothing_else
returns-clause-nothing_else c = λ pool feeder all file at feeds knows inside from.
    no_more is_end 2_049 (row_board pool) (row_seat feeder) file feeds all knows at inside from
