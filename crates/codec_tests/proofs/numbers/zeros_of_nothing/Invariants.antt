use Rattle.std.proofs.Common.{length}
use Rattle.zp_decoder.specs.States.{AreBelow}
use Rattle.jb2_numbers.specs.Kept.{states_of}
use Rattle.codec_tests.proofs.numbers.zeros_of_nothing.Given as goal

abbrev pub invariant-loop-zeros : goal.invariant-loop-zeros
invariant-loop-zeros l = AreBelow (length l.zp.table) (states_of l.contexts)
