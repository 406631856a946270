use Rattle.std.proofs.Common.{refl}
use Rattle.jb2_numbers.specs.Number.{most_decisions}
use Rattle.jb2_numbers.proofs.Reaching.{value_reached, value_possible, value_alone, value_implied}
use Rattle.jb2_numbers.proofs.laws.numbers_are_reached.Goals as goal

pub returns-clause-reached : goal.returns-clause-reached
returns-clause-reached c = value_reached

pub returns-clause-possible : goal.returns-clause-possible
returns-clause-possible c = value_possible

pub returns-clause-alone : goal.returns-clause-alone
returns-clause-alone c = value_alone

pub returns-clause-implied : goal.returns-clause-implied
returns-clause-implied c = value_implied

pub returns-clause-eleven : goal.returns-clause-eleven
unfolding most_decisions
returns-clause-eleven c = refl

pub returns-clause-negative : goal.returns-clause-negative
unfolding most_decisions
returns-clause-negative c = refl
