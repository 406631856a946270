use Rattle.std.specs.Arc.{arc_value}
use Rattle.jb2_records.proofs.Making.{shape_stays}
use Rattle.jb2_records.proofs.machine.Machine.shape.Goals as goal

pub returns-in-Ok-clause-moves : goal.returns-in-Ok-clause-moves
returns-in-Ok-clause-moves c input holds =
    c.shared.ensures.holds input (shape_stays input c.args.made c.args.kept c.args.shape (arc_value c.in-Ok.shape) c.args.self.now c.in-Ok.ensures.ok holds)
