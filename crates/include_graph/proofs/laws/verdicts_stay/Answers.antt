use Rattle.include_graph.proofs.Knowing.{verdict_on}
use Rattle.include_graph.proofs.laws.verdicts_stay.Goals as goal

pub returns : goal.returns
returns c names less more file on = verdict_on names less more file on
