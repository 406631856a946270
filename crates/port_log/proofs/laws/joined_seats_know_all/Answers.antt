use Rattle.once_board.proofs.Lemmas.{all_known, no_more}
use Rattle.port_log.specs.Entries.{is_end}
use Rattle.port_log.specs.Logs.{row_board, row_seat}
use Rattle.port_log.proofs.laws.joined_seats_know_all.Goals as goal

pub returns-clause-all : goal.returns-clause-all
returns-clause-all c = λ log worker all page works knows. all_known is_end 260 (row_board log) (row_seat worker) page works all knows

pub returns-clause-nothing_else : goal.returns-clause-nothing_else
returns-clause-nothing_else c = λ log worker all page at works knows inside from.
    no_more is_end 260 (row_board log) (row_seat worker) page works all knows at inside from
