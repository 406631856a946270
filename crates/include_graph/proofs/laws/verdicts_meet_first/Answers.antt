use Rattle.include_graph.proofs.Meeting.{refused_first, asked_first, listed_first}
use Rattle.include_graph.proofs.laws.verdicts_meet_first.Goals as goal

pub returns-clause-refused : goal.returns-clause-refused
returns-clause-refused c graph target fault b = refused_first graph target fault b

pub returns-clause-asked : goal.returns-clause-asked
returns-clause-asked c graph target file b = asked_first graph target file b

pub returns-clause-listed : goal.returns-clause-listed
returns-clause-listed c graph target b = listed_first graph target b
