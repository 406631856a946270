use Rattle.zp_table.proofs.RowLemmas.{rows_in-six}
use Rattle.zp_table.proofs.reading.row_of.Goals as goal

pub returns : goal.returns
returns c = λ more. rows_in-six c.args.bytes.now more _ _ c.requires c.read_u16.ensures c.read_u16-2.ensures
