use Rattle.std.proofs.Common.{◌≡◌, false}
use Rattle.record_tests.proofs.records.read_both.Given as goal

abbrev pub invariant-loop-byte : goal.invariant-loop-byte
invariant-loop-byte g l = l.reader.ended ≡ false
