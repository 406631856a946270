use Rattle.include_graph.proofs.Asking.{asks_unknown}
use Rattle.include_graph.proofs.laws.verdicts_ask.Goals as goal

pub returns : goal.returns
returns c graph target file b e = asks_unknown graph target file b e
