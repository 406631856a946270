use Rattle.std.proofs.Common.{refl}
use Rattle.zp_decoder.specs.Decision.{most_bits}
use Rattle.iw44_slices.proofs.laws.worked_pair.Goals as goal

pub returns-clause-answer : goal.returns-clause-answer
unfolding most_bits
returns-clause-answer c = refl

pub returns-clause-raised : goal.returns-clause-raised
unfolding most_bits
returns-clause-raised c = refl

pub returns-clause-unknown : goal.returns-clause-unknown
unfolding most_bits
returns-clause-unknown c = refl

pub returns-clause-started : goal.returns-clause-started
unfolding most_bits
returns-clause-started c = refl

pub returns-clause-decisions : goal.returns-clause-decisions
unfolding most_bits
returns-clause-decisions c = refl
