use Rattle.std.proofs.Common.{refl}
use Rattle.zp_decoder.specs.Decision.{most_bits}
use Rattle.iw44_image.proofs.laws.worked_slices_of_chunks.Goals as goal

pub returns-clause-two : goal.returns-clause-two
unfolding most_bits
returns-clause-two c = refl

pub returns-clause-two_decisions : goal.returns-clause-two_decisions
unfolding most_bits
returns-clause-two_decisions c = refl

pub returns-clause-chroma : goal.returns-clause-chroma
unfolding most_bits
returns-clause-chroma c = refl

pub returns-clause-exhausted : goal.returns-clause-exhausted
unfolding most_bits
returns-clause-exhausted c = refl

pub returns-clause-exhausted_decisions : goal.returns-clause-exhausted_decisions
unfolding most_bits
returns-clause-exhausted_decisions c = refl
