use Rattle.std.proofs.Common.{refl}
use Rattle.zp_decoder.specs.Decision.{most_bits}
use Rattle.iw44_image.proofs.laws.worked_layer_sizes.Goals as goal

pub returns-clause-refused : goal.returns-clause-refused
unfolding most_bits
returns-clause-refused c = refl

pub returns-clause-no_decision : goal.returns-clause-no_decision
unfolding most_bits
returns-clause-no_decision c = refl

pub returns-clause-late : goal.returns-clause-late
unfolding most_bits
returns-clause-late c = refl

pub returns-clause-empty : goal.returns-clause-empty
unfolding most_bits
returns-clause-empty c = refl

pub returns-clause-large : goal.returns-clause-large
unfolding most_bits
returns-clause-large c = refl

pub returns-clause-taken : goal.returns-clause-taken
unfolding most_bits
returns-clause-taken c = refl
