use Rattle.std.proofs.Common.{arith}
use Rattle.std.proofs.lemmas.Grind.{common_steps}
use Rattle.zp_table.proofs.RowLemmas.{IsTable-from_no_fault}
use Rattle.zp_table.proofs.table.Table.read.Goals as goal

pub invariant_of-result : goal.invariant_of-result
invariant_of-result c = grind (arith, common_steps, IsTable-from_no_fault)
