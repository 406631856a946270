use Rattle.jb2_numbers.proofs.Ending.{few_after, possible_after, read_on-ends}
use Rattle.jb2_numbers.proofs.laws.numbers_end.Goals as goal

pub returns-clause-few : goal.returns-clause-few
returns-clause-few c = few_after

pub returns-clause-possible : goal.returns-clause-possible
returns-clause-possible c = possible_after

pub returns-clause-last : goal.returns-clause-last
returns-clause-last c = read_on-ends
