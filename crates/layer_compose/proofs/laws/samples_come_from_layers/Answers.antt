use Rattle.layer_compose.proofs.Turning.{comes_from_top}
use Rattle.layer_compose.proofs.laws.samples_come_from_layers.Goals as goal

pub returns : goal.returns
returns c = comes_from_top
