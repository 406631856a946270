use Rattle.std.proofs.Common.{◌≡◌, ◌≤◌, length, false}
use Rattle.codec_tests.proofs.decisions.read_piece.Given as goal

abbrev pub invariant-loop : goal.invariant-loop
invariant-loop l = record {
  taken : l.taken ≤ length l.piece;
  table : l.zp.table ≡ l.fn.zp.table;
  open_end : l.zp.ended ≡ false;
}
