use Rattle.include_graph.proofs.Leading.{asked_below, fault_below}
use Rattle.include_graph.proofs.laws.below.Goals as goal

pub returns-clause-asked : goal.returns-clause-asked
returns-clause-asked c graph target file b e = asked_below graph target file b e

pub returns-clause-refused : goal.returns-clause-refused
returns-clause-refused c graph target fault b e = fault_below graph target fault b e
