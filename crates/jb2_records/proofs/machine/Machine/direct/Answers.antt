use Rattle.std.proofs.Common.{sym}
use Rattle.jb2_records.specs.declared.steps.Step.TheVariants as step
use Rattle.jb2_records.specs.declared.steps.Origin.TheVariants as origin
use Rattle.jb2_records.specs.Steps.{rest_of}
use Rattle.jb2_records.specs.Machine.{Waits}
use Rattle.jb2_records.proofs.Asking.{direct_holds, direct_halts}
use Rattle.jb2_records.proofs.Making.{at_shape}
use Rattle.jb2_records.proofs.machine.Machine.direct.Goals as goal

pub returns-in-Ok-clause-moves : goal.returns-in-Ok-clause-moves
returns-in-Ok-clause-moves c input holds =
    at_shape input origin.Own c.args.kept c.direct.new.reader.shape c.take.result _ c.take.ensures
    (direct_holds input c.args.kept c.args.reader c.direct.new.reader.shape c.args.self.now c.direct.new.self holds
    (c.in-Ok.ensures.goes input.chunk c.args.reader.shape.width c.args.reader.shape.height holds.at holds.stands_there))

pub returns-in-Err-clause-moves : goal.returns-in-Err-clause-moves
unfolding rest_of
returns-in-Err-clause-moves c input holds =
    direct_halts input c.args.kept c.args.reader.shape.width c.args.reader.shape.height c.direct.new.reader
    (λ before at. Waits input (step.Direct c.args.kept c.args.reader) c.args.self.now.coder before at)
    c.args.self.now c.direct.new.self c.in-Err.stop c.halted.result c.halted.ensures (sym c.in-Err.ensures.width) (sym c.in-Err.ensures.height) holds
    (c.in-Err.ensures.goes input.chunk c.args.reader.shape.width c.args.reader.shape.height holds.at holds.stands_there)
