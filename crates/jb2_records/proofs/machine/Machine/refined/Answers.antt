use Rattle.jb2_records.specs.declared.steps.Origin.TheVariants as origin
use Rattle.jb2_records.proofs.Making.{at_shape, refined_holds, refined_halts}
use Rattle.jb2_records.proofs.machine.Machine.refined.Goals as goal

pub returns-in-Ok-clause-moves : goal.returns-in-Ok-clause-moves
returns-in-Ok-clause-moves c input holds =
    at_shape input (origin.Refined c.args.number) c.args.kept c.refined.new.reader.sketch.shape c.take.result _ c.take.ensures
    (refined_holds input c.args.kept c.args.number c.args.reader c.refined.new.reader.sketch.shape c.args.self.now c.refined.new.self holds
    (c.in-Ok.ensures.goes input.chunk c.args.reader.sketch.shape.width c.args.reader.sketch.shape.height holds.at holds.stands_there.0))

pub returns-in-Err-clause-moves : goal.returns-in-Err-clause-moves
returns-in-Err-clause-moves c input holds =
    refined_halts input c.args.kept c.args.number c.args.reader c.refined.new.reader c.args.self.now c.refined.new.self c.in-Err.stop c.halted.result
    c.halted.ensures
    c.in-Err.ensures.matched c.in-Err.ensures.width c.in-Err.ensures.height holds
    (c.in-Err.ensures.goes input.chunk c.args.reader.sketch.shape.width c.args.reader.sketch.shape.height holds.at holds.stands_there.0)
