use Rattle.std.proofs.Common.{arith}
use Rattle.bit_plane.proofs.RunSteps.{ran_more}
use Rattle.bit_plane.proofs.words.or_run.Goals as goal

pub loop-done-preserved : goal.loop-done-preserved
loop-done-preserved c = (
  ran_more c.args.words.now c.loop-done.words c.or_bits.new.words c.args.to c.args.other.now c.args.from c.loop-done.done c.min-step.result c.read_bits-bits.result
      c.loop-done.invariant.0 c.read_bits-bits.ensures.bits c.or_bits.ensures.inside c.or_bits.ensures.outside,
  omega arith,
)
