use Rattle.layer_compose.proofs.RowLists.{all_rows, no_rows, one_row, next_row, rows_joined, rows_length}
use Rattle.layer_compose.proofs.laws.rows_make_the_raster.Goals as goal

pub returns-clause-all : goal.returns-clause-all
returns-clause-all c = all_rows

pub returns-clause-none : goal.returns-clause-none
returns-clause-none c = no_rows

pub returns-clause-one : goal.returns-clause-one
returns-clause-one c = one_row

pub returns-clause-next : goal.returns-clause-next
returns-clause-next c = next_row

pub returns-clause-joined : goal.returns-clause-joined
returns-clause-joined c = rows_joined

pub returns-clause-length : goal.returns-clause-length
returns-clause-length c = rows_length
