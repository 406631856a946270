use Rattle.std.proofs.Common.{◌≡◌, false}
use Rattle.record_tests.proofs.cuts.push_each.Given as goal

abbrev pub invariant-bytes : goal.invariant-bytes
invariant-bytes l = l.reader.ended ≡ false
