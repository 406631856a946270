use Rattle.std.proofs.Common.{refl}
use Rattle.zp_decoder.specs.Decision.{most_bits}
use Rattle.iw44_lifting.specs.Lift.{columns_lifted, rows_lifted}
use Rattle.iw44_image.proofs.laws.worked_grey_layers.Goals as goal

pub returns-clause-answer : goal.returns-clause-answer
unfolding most_bits columns_lifted rows_lifted
returns-clause-answer c = refl

pub returns-clause-decisions : goal.returns-clause-decisions
unfolding most_bits columns_lifted rows_lifted
returns-clause-decisions c = refl

pub returns-clause-middle : goal.returns-clause-middle
unfolding most_bits columns_lifted rows_lifted
returns-clause-middle c = refl

pub returns-clause-black : goal.returns-clause-black
unfolding most_bits columns_lifted rows_lifted
returns-clause-black c = refl

pub returns-clause-black_decisions : goal.returns-clause-black_decisions
unfolding most_bits columns_lifted rows_lifted
returns-clause-black_decisions c = refl

pub returns-clause-white : goal.returns-clause-white
unfolding most_bits columns_lifted rows_lifted
returns-clause-white c = refl

pub returns-clause-pair : goal.returns-clause-pair
unfolding most_bits columns_lifted rows_lifted
returns-clause-pair c = refl

pub returns-clause-needs : goal.returns-clause-needs
unfolding most_bits columns_lifted rows_lifted
returns-clause-needs c = refl

pub returns-clause-no_decision : goal.returns-clause-no_decision
unfolding most_bits columns_lifted rows_lifted
returns-clause-no_decision c = refl

pub returns-clause-later_serial : goal.returns-clause-later_serial
unfolding most_bits columns_lifted rows_lifted
returns-clause-later_serial c = refl

pub returns-clause-later_chunk : goal.returns-clause-later_chunk
unfolding most_bits columns_lifted rows_lifted
returns-clause-later_chunk c = refl
