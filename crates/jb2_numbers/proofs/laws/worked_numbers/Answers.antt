use Rattle.std.proofs.Common.{refl}
use Rattle.zp_decoder.specs.Decision.{most_bits}
use Rattle.jb2_numbers.specs.Number.{most_decisions}
use Rattle.jb2_numbers.proofs.laws.worked_numbers.Goals as goal

pub returns-clause-one : goal.returns-clause-one
unfolding most_bits most_decisions
returns-clause-one c = refl

pub returns-clause-two : goal.returns-clause-two
unfolding most_bits most_decisions
returns-clause-two c = refl

pub returns-clause-negative : goal.returns-clause-negative
unfolding most_bits most_decisions
returns-clause-negative c = refl

pub returns-clause-eleven : goal.returns-clause-eleven
unfolding most_bits most_decisions
returns-clause-eleven c = refl

pub returns-clause-thirty_one : goal.returns-clause-thirty_one
unfolding most_bits most_decisions
returns-clause-thirty_one c = refl

pub returns-clause-alone : goal.returns-clause-alone
unfolding most_bits most_decisions
returns-clause-alone c = refl

pub returns-clause-needs_bytes : goal.returns-clause-needs_bytes
unfolding most_bits most_decisions
returns-clause-needs_bytes c = refl

pub returns-clause-path_of_eleven : goal.returns-clause-path_of_eleven
unfolding most_bits most_decisions
returns-clause-path_of_eleven c = refl

pub returns-clause-path_of_thirty_one : goal.returns-clause-path_of_thirty_one
unfolding most_bits most_decisions
returns-clause-path_of_thirty_one c = refl
