use Rattle.once_board.proofs.Lemmas.{ends_prefix, put_ends}
use Rattle.port_log.specs.Entries.{is_end}
use Rattle.port_log.specs.Logs.{row_board, row_seat}
use Rattle.port_log.proofs.laws.logs_end_by_their_last_entry.Goals as goal

pub returns-clause-announced : goal.returns-clause-announced
returns-clause-announced c = λ log worker page works. put_ends is_end 260 (row_board log) (row_seat worker) page works

pub returns-clause-prefix : goal.returns-clause-prefix
returns-clause-prefix c = λ xs ys prefix ends. ends_prefix is_end xs ys prefix ends
