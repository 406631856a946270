use Rattle.include_graph.proofs.Leading.{refused_way}
use Rattle.include_graph.proofs.Serving.{none_faulty}
use Rattle.include_graph.proofs.laws.faults.Goals as goal

pub returns-clause-refused : goal.returns-clause-refused
returns-clause-refused c graph target fault e = refused_way graph target fault e

pub returns-clause-listed : goal.returns-clause-listed
returns-clause-listed c graph target files b e fault leads = none_faulty graph target files b e fault leads
