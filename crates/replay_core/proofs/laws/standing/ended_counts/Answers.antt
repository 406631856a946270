use Rattle.replay_core.specs.Core.{Stands}
use Rattle.replay_core.proofs.Together.{counts_all}
use Rattle.replay_core.proofs.laws.standing.ended_counts.Goals as goal

pub returns : goal.returns
unfolding Stands
returns c state counts core stands over = counts_all state counts core stands over
