use Rattle.std.proofs.Common.{refl}
use Rattle.zp_decoder.specs.Decision.{most_bits}
use Rattle.iw44_lifting.specs.Lift.{columns_lifted, rows_lifted}
use Rattle.iw44_image.proofs.laws.worked_colour_layers.Goals as goal

pub returns-clause-decisions : goal.returns-clause-decisions
unfolding most_bits columns_lifted rows_lifted
returns-clause-decisions c = refl

pub returns-clause-full : goal.returns-clause-full
unfolding most_bits columns_lifted rows_lifted
returns-clause-full c = refl

pub returns-clause-half_decisions : goal.returns-clause-half_decisions
unfolding most_bits columns_lifted rows_lifted
returns-clause-half_decisions c = refl

pub returns-clause-half : goal.returns-clause-half
unfolding most_bits columns_lifted rows_lifted
returns-clause-half c = refl

pub returns-clause-delayed : goal.returns-clause-delayed
unfolding most_bits columns_lifted rows_lifted
returns-clause-delayed c = refl
