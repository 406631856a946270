use Rattle.std.proofs.Common.{arith}
use Rattle.layer_compose.specs.Reduction.{is_reduced}
use Rattle.layer_compose.proofs.Reducing.{reduction_is, first_none}
use Rattle.layer_compose.proofs.laws.reductions_are_least.Goals as goal

pub returns-clause-fits : goal.returns-clause-fits
returns-clause-fits c = λ page layer k is. (reduction_is page layer k is).passes

pub returns-clause-some : goal.returns-clause-some
returns-clause-some c = λ page layer k is. (reduction_is page layer k is).some

pub returns-clause-most : goal.returns-clause-most
returns-clause-most c = λ page layer k is.
    let first = reduction_is page layer k is in
    omega (arith, first.within)

pub returns-clause-least : goal.returns-clause-least
returns-clause-least c = λ page layer k other is. (reduction_is page layer k is).least other

pub returns-clause-none : goal.returns-clause-none
returns-clause-none c = λ page layer k is some most. first_none (is_reduced page layer) 1 12 is k some (omega arith)
