use Rattle.std.proofs.Common.{◌≡◌, ◌≤◌, length, false}
use Rattle.zp_decoder.specs.States.{AreBelow}
use Rattle.jb2_shapes.specs.Numbers.{states_of}
use Rattle.record_tests.proofs.shapes.read_refined.Given as goal

abbrev pub invariant-loop : goal.invariant-loop
invariant-loop l = record {
  taken : l.taken ≤ length l.bytes;
  below : AreBelow (length l.zp.table) (states_of l.contexts);
  open_end : l.zp.ended ≡ false;
}
