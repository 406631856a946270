use Rattle.jb2_records.specs.declared.steps.Step.TheVariants as step
use Rattle.jb2_records.proofs.Asking.{row_stays, row_halts, halted_fits}
use Rattle.jb2_records.proofs.machine.Machine.row.Goals as goal

pub returns-in-Ok-clause-moves : goal.returns-in-Ok-clause-moves
returns-in-Ok-clause-moves c input holds =
    c.ask.ensures.asks input (row_stays input c.args.mark c.args.self.now c.row.new.self c.in-Ok.is_new holds
    (c.in-Ok.ensures.goes input.chunk holds.at holds.stands_there))

pub returns-in-Err-clause-moves : goal.returns-in-Err-clause-moves
returns-in-Err-clause-moves c input holds =
    row_halts input c.args.mark c.args.self.now c.row.new.self c.in-Err.stop c.halted.result c.halted.ensures holds
    (c.in-Err.ensures.goes input.chunk holds.at holds.stands_there)

pub returns-in-Err-clause-fits : goal.returns-in-Err-clause-fits
returns-in-Err-clause-fits c = halted_fits c.in-Err.stop
    (step.Row c.args.mark) c.args.self.now.library c.args.self.now.picture c.halted.result c.halted.ensures c.requires
