use Rattle.std.proofs.Common.{◌≡◌, length, false}
use Rattle.codec_tests.proofs.decisions.read_pieces.Given as goal

abbrev pub invariant-loop-piece : goal.invariant-loop-piece
invariant-loop-piece l = record {
  rows : l.rows ≡ length l.zp.table;
  open_end : l.zp.ended ≡ false;
}
