use Rattle.std.proofs.Common.{refl}
use Rattle.zp_decoder.specs.Decision.{most_bits}
use Rattle.iw44_slices.proofs.laws.worked_roots.Goals as goal

pub returns-clause-answer : goal.returns-clause-answer
unfolding most_bits
returns-clause-answer c = refl

pub returns-clause-decisions : goal.returns-clause-decisions
unfolding most_bits
returns-clause-decisions c = refl

pub returns-clause-root : goal.returns-clause-root
unfolding most_bits
returns-clause-root c = refl

pub returns-clause-bucket : goal.returns-clause-bucket
unfolding most_bits
returns-clause-bucket c = refl
