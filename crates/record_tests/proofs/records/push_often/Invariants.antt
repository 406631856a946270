use Rattle.std.proofs.Common.{◌≡◌, false}
use Rattle.record_tests.proofs.records.push_often.Given as goal

abbrev pub invariant-pieces : goal.invariant-pieces
invariant-pieces l = l.reader.ended ≡ false
