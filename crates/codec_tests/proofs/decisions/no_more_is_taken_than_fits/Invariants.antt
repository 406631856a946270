use Rattle.std.proofs.Common.{◌≡◌, ◌<◌, length, false}
use Rattle.codec_tests.proofs.decisions.no_more_is_taken_than_fits.Given as goal

abbrev pub invariant-loop : goal.invariant-loop
invariant-loop g l = record {
  below : l.state < length l.zp.table;
  open_end : l.zp.ended ≡ false;
}
