use Rattle.std.proofs.Common.{◌≡◌, ◌<◌, length}
use Rattle.record_tests.proofs.shapes.are_decided.Given as goal

abbrev pub invariant-loop-decision : goal.invariant-loop-decision
invariant-loop-decision l = record {
  table : l.zp.table ≡ l.fn.zp.table;
  ended : l.zp.ended ≡ l.fn.zp.ended;
}
