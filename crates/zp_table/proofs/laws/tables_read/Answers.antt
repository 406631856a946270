use Rattle.zp_table.proofs.RowLemmas.{rows_in-bytes_of}
use Rattle.zp_table.proofs.ReadLemmas.{written, accepted, first_bad}
use Rattle.zp_table.proofs.laws.tables_read.Goals as goal

pub returns-clause-accepted : goal.returns-clause-accepted
returns-clause-accepted c bytes all = (written bytes all, accepted bytes)

pub returns-clause-read_back : goal.returns-clause-read_back
returns-clause-read_back c = rows_in-bytes_of

pub returns-clause-first : goal.returns-clause-first
returns-clause-first c = first_bad
