use Rattle.std.proofs.Common.{◌≡◌, ◌<◌, length, false}
use Rattle.codec_tests.proofs.encoded.mixed_digits.Given as goal

abbrev pub invariant-loop : goal.invariant-loop
invariant-loop l = record {
  below : l.state < length l.zp.table;
  open_end : 0 < length l.left → l.zp.ended ≡ false;
}
