use Rattle.replay_core.specs.Core.{AreEmpty}
use Rattle.replay_core.proofs.core_calls.new_files.Given as goal

abbrev pub invariant-loop : goal.invariant-loop
invariant-loop l = AreEmpty l.counter l.files.items
