use Rattle.layer_compose.proofs.Summing.{sum_of_white}
use Rattle.layer_compose.proofs.laws.sums_count_white.Goals as goal

pub returns : goal.returns
returns c = sum_of_white
