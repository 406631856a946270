use Rattle.std.proofs.Common.{◌≤◌}
use Rattle.data_pool.specs.Pools.{IsSeatOf}
use Rattle.layer_tests.proofs.tests.threads.reads.Given as goal

abbrev pub invariant-loop : goal.invariant-loop
invariant-loop l = IsSeatOf l.pool l.seat × (l.at ≤ 101)
