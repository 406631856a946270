use Rattle.include_graph.proofs.ByEvents.{by_events}
use Rattle.include_graph.proofs.laws.by_events.Goals as goal

pub returns : goal.returns
returns c mark bytes = by_events mark bytes
