use Rattle.layer_compose.proofs.Steps.{least_step}
use Rattle.layer_compose.proofs.laws.previews_fit.Goals as goal

pub returns-clause-least : goal.returns-clause-least
returns-clause-least c = least_step
