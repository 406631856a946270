use Rattle.include_graph.specs.Fed.{Fed}
use Rattle.include_graph.proofs.Closing.{reports}
use Rattle.include_graph.proofs.laws.readers_report.Goals as goal

pub returns : goal.returns
unfolding Fed
returns c mark bytes reader h = reports reader.answered mark bytes reader.kept h
