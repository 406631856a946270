use Rattle.std.proofs.Common.{◌≡◌, length}
use Rattle.codec_tests.proofs.decisions.decide_on.Given as goal

abbrev pub invariant-loop : goal.invariant-loop
invariant-loop l = record {
  table : l.zp.table ≡ l.fn.zp.table;
  ended : l.zp.ended ≡ l.fn.zp.ended;
}
