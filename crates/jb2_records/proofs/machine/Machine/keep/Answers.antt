use Rattle.jb2_records.specs.Steps.{rest_of}
use Rattle.std.specs.Arc.{arc_value}
use Rattle.jb2_records.proofs.Entering.{keep_adds}
use Rattle.jb2_records.proofs.machine.Machine.keep.Goals as goal

pub returns-in-Ok-clause-moves : goal.returns-in-Ok-clause-moves
unfolding rest_of
returns-in-Ok-clause-moves c input holds =
    c.next_record.ensures.holds input (keep_adds input c.args.self.now c.keep.new.self c.args.made (arc_value c.args.shape) holds c.in-Ok.ensures.kept)
