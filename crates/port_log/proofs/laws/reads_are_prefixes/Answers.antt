use Rattle.once_board.proofs.Lemmas.{read_prefix}
use Rattle.port_log.specs.Entries.{is_end}
use Rattle.port_log.specs.Logs.{row_board, row_seat}
use Rattle.port_log.proofs.laws.reads_are_prefixes.Goals as goal

pub returns-clause-few : goal.returns-clause-few
returns-clause-few c = λ log worker reader all page n works knows is extends few known.
    (read_prefix is_end 260 (row_board log) (row_seat worker) page works all knows (row_seat reader) n is extends few known).0

pub returns-clause-prefix : goal.returns-clause-prefix
returns-clause-prefix c = λ log worker reader all page n works knows is extends few known.
    (read_prefix is_end 260 (row_board log) (row_seat worker) page works all knows (row_seat reader) n is extends few known).1
