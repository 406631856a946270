use Rattle.std.proofs.Common.{◌≡◌, false}
use Rattle.record_tests.proofs.records.pushed.Given as goal

abbrev pub invariant-parts : goal.invariant-parts
invariant-parts l = l.reader.ended ≡ false
