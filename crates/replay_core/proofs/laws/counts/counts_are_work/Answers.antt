use Rattle.std.proofs.Common.{arith}
use Rattle.replay_core.proofs.Counting.{counts_most, counts_least}
use Rattle.replay_core.proofs.laws.counts.counts_are_work.Goals as goal

pub returns-clause-most : goal.returns-clause-most
returns-clause-most c table library counts within = counts_most table library counts within

pub returns-clause-all : goal.returns-clause-all
returns-clause-all c table library counts within all =
    let most = counts_most table library counts within in
    let least = counts_least table library counts within.places all in
    omega (arith, most, least)
