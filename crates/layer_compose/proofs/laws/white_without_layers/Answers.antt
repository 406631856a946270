use Rattle.layer_compose.proofs.Summing.{white_samples, white_sum}
use Rattle.layer_compose.proofs.laws.white_without_layers.Goals as goal

pub returns-clause-samples : goal.returns-clause-samples
returns-clause-samples c = white_samples

pub returns-clause-sum : goal.returns-clause-sum
returns-clause-sum c = white_sum
