use Rattle.std.proofs.Common.{◌≡◌, false}
use Rattle.record_tests.proofs.cuts.a_large_shape_comes_byte_by_byte.Given as goal

abbrev pub invariant-loop-byte : goal.invariant-loop-byte
invariant-loop-byte g l = l.reader.ended ≡ false
