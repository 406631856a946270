use Rattle.std.proofs.Common.{◌≡◌, ◌<◌, length}
use Rattle.codec_tests.proofs.decisions.read_bits.Given as goal

abbrev pub invariant-loop : goal.invariant-loop
invariant-loop l = record {
  below : l.state < length l.zp.table;
  ended : l.zp.ended ≡ l.fn.zp.ended;
}
