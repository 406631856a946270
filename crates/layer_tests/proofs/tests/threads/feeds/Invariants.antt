use Rattle.data_pool.specs.Pools.{IsSeatOf, MayFeed}
use Rattle.layer_tests.proofs.tests.threads.feeds.Given as goal

abbrev pub invariant-loop-number : goal.invariant-loop-number
invariant-loop-number l = IsSeatOf l.pool l.seat × MayFeed l.seat l.file
