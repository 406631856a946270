use Rattle.std.proofs.Common.{refl}
use Rattle.zp_decoder.specs.Decision.{most_bits}
use Rattle.iw44_slices.proofs.laws.worked_slices.Goals as goal

pub returns-clause-empty : goal.returns-clause-empty
unfolding most_bits
returns-clause-empty c = refl

pub returns-clause-empty_decisions : goal.returns-clause-empty_decisions
unfolding most_bits
returns-clause-empty_decisions c = refl

pub returns-clause-positive : goal.returns-clause-positive
unfolding most_bits
returns-clause-positive c = refl

pub returns-clause-negative : goal.returns-clause-negative
unfolding most_bits
returns-clause-negative c = refl

pub returns-clause-decisions : goal.returns-clause-decisions
unfolding most_bits
returns-clause-decisions c = refl

pub returns-clause-needs : goal.returns-clause-needs
unfolding most_bits
returns-clause-needs c = refl

pub returns-clause-needs_decisions : goal.returns-clause-needs_decisions
unfolding most_bits
returns-clause-needs_decisions c = refl

pub returns-clause-exhausted : goal.returns-clause-exhausted
unfolding most_bits
returns-clause-exhausted c = refl
