use Rattle.std.proofs.Common.{◌≡◌, None, replicate}
use Rattle.replay_core.proofs.core_calls.no_results.Given as goal

abbrev pub invariant-loop : goal.invariant-loop
invariant-loop l = l.results.items ≡ replicate l.counter None
