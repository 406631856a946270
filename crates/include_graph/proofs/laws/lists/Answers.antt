use Rattle.include_graph.proofs.Ordering.{verdict_order, verdict_last, order_length}
use Rattle.include_graph.proofs.Serving.{listed_served}
use Rattle.include_graph.proofs.Leaving.{listed_leaves}
use Rattle.include_graph.proofs.laws.lists.Goals as goal

pub returns-clause-leaves : goal.returns-clause-leaves
returns-clause-leaves c graph file files b = listed_leaves graph file files b

pub returns-clause-order : goal.returns-clause-order
returns-clause-order c graph file files b e = (verdict_order graph file files b e).0

pub returns-clause-itself : goal.returns-clause-itself
returns-clause-itself c graph file files e = verdict_last graph file files e

pub returns-clause-listed : goal.returns-clause-listed
returns-clause-listed c graph target file files b e h = listed_served graph target file files b e h

pub returns-clause-length : goal.returns-clause-length
returns-clause-length c graph file files b e = order_length graph files (verdict_order graph file files b e).0
