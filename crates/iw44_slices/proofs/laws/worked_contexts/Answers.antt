use Rattle.std.proofs.Common.{refl}
use Rattle.zp_decoder.specs.Decision.{most_bits}
use Rattle.iw44_slices.proofs.laws.worked_contexts.Goals as goal

pub returns-clause-answer : goal.returns-clause-answer
unfolding most_bits
returns-clause-answer c = refl

pub returns-clause-decisions : goal.returns-clause-decisions
unfolding most_bits
returns-clause-decisions c = refl

pub returns-clause-raised : goal.returns-clause-raised
unfolding most_bits
returns-clause-raised c = refl

pub returns-clause-started : goal.returns-clause-started
unfolding most_bits
returns-clause-started c = refl

pub returns-clause-unknown : goal.returns-clause-unknown
unfolding most_bits
returns-clause-unknown c = refl

pub returns-clause-bucket : goal.returns-clause-bucket
unfolding most_bits
returns-clause-bucket c = refl

pub returns-clause-active_band : goal.returns-clause-active_band
unfolding most_bits
returns-clause-active_band c = refl

pub returns-clause-alone : goal.returns-clause-alone
unfolding most_bits
returns-clause-alone c = refl

pub returns-clause-two_left : goal.returns-clause-two_left
unfolding most_bits
returns-clause-two_left c = refl

pub returns-clause-after_a_start : goal.returns-clause-after_a_start
unfolding most_bits
returns-clause-after_a_start c = refl

pub returns-clause-mantissa : goal.returns-clause-mantissa
unfolding most_bits
returns-clause-mantissa c = refl

pub returns-clause-place : goal.returns-clause-place
unfolding most_bits
returns-clause-place c = refl
