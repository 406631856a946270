use Rattle.jb2_numbers.proofs.Bounds.{within_bounds}
use Rattle.jb2_numbers.proofs.Ending.{answer_within}
use Rattle.jb2_numbers.proofs.laws.numbers_lie_within.Goals as goal

pub returns-clause-answered : goal.returns-clause-answered
returns-clause-answered c = answer_within

pub returns-clause-known : goal.returns-clause-known
returns-clause-known c = within_bounds
