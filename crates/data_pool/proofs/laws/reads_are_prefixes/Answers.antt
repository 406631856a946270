use Rattle.once_board.proofs.Lemmas.{read_prefix}
use Rattle.data_pool.specs.Pieces.{is_end}
use Rattle.data_pool.specs.Pools.{row_board, row_seat}
use Rattle.data_pool.proofs.laws.reads_are_prefixes.Goals as goal

pub returns-clause-few : goal.returns-clause-few
returns-clause-few c = λ pool feeder reader all file n feeds knows is extends few known.
    (read_prefix is_end 2_049 (row_board pool) (row_seat feeder) file feeds all knows (row_seat reader) n is extends few known).0

pub returns-clause-prefix : goal.returns-clause-prefix
returns-clause-prefix c = λ pool feeder reader all file n feeds knows is extends few known.
    (read_prefix is_end 2_049 (row_board pool) (row_seat feeder) file feeds all knows (row_seat reader) n is extends few known).1
