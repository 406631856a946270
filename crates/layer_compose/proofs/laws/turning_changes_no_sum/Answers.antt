use Rattle.layer_compose.proofs.Summing.{any_turn}
use Rattle.layer_compose.proofs.laws.turning_changes_no_sum.Goals as goal

pub returns : goal.returns
returns c = any_turn
