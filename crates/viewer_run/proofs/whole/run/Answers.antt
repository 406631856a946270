use Rattle.std.proofs.Common.{[]}
use Rattle.viewer_run.specs.Ended.{around}
use Rattle.viewer_run.proofs.Running.{run_ended, run_stopped, front_stops}
use Rattle.viewer_run.proofs.whole.run.Goals as goal

pub returns-in-Ok-clause-told : goal.returns-in-Ok-clause-told
returns-in-Ok-clause-told g c told files =
    run_ended told c.args.words.now c.in-Ok.status
    (around (g.F.Folder.failures c.args.folder.now) (g.S.Sink.given c.args.out.now) (g.E.Sink.given c.args.report.now) (g.M.Meter.count c.args.meter.now))
    (around (g.F.Folder.failures c.carry_out.new.folder) (g.S.Sink.given c.carry_out.new.out) (g.E.Sink.given c.carry_out.new.report)
    (g.M.Meter.count c.carry_out.new.meter))
    (c.in-Ok.ensures.told told files)

pub returns-in-Ok-clause-untouched : goal.returns-in-Ok-clause-untouched
returns-in-Ok-clause-untouched g c told added files grown failed below =
    absurd (front_stops told c.args.words.now c.in-Ok.status
    (around (g.F.Folder.failures c.args.folder.now) (g.S.Sink.given c.args.out.now) (g.E.Sink.given c.args.report.now) (g.M.Meter.count c.args.meter.now))
    (around (g.F.Folder.failures c.carry_out.new.folder) (g.S.Sink.given c.carry_out.new.out) (g.E.Sink.given c.carry_out.new.report)
    (g.M.Meter.count c.carry_out.new.meter))
    added (c.in-Ok.ensures.told told files) grown failed)

pub returns-in-Ok-clause-alone : goal.returns-in-Ok-clause-alone
returns-in-Ok-clause-alone g c asks =
    let alone = c.in-Ok.ensures.alone asks in (
      alone.0,
      run_ended [] c.args.words.now c.in-Ok.status
          (around [] (g.S.Sink.given c.args.out.now) (g.E.Sink.given c.args.report.now) (g.M.Meter.count c.args.meter.now))
          (around [] (g.S.Sink.given c.carry_out.new.out) (g.E.Sink.given c.carry_out.new.report) (g.M.Meter.count c.carry_out.new.meter))
          alone.1,
    )

pub returns-in-Err-clause-told : goal.returns-in-Err-clause-told
returns-in-Err-clause-told g c told files =
    run_stopped told c.args.words.now c.in-Err.stop c.status.result.0
    (around (g.F.Folder.failures c.args.folder.now) (g.S.Sink.given c.args.out.now) (g.E.Sink.given c.args.report.now) (g.M.Meter.count c.args.meter.now))
    (around (g.F.Folder.failures c.carry_out.new.folder) (g.S.Sink.given c.carry_out.new.out) (g.E.Sink.given c.carry_out.new.report)
    (g.M.Meter.count c.carry_out.new.meter))
    c.status.ensures (c.in-Err.ensures.told told files)

pub returns-in-Err-clause-alone : goal.returns-in-Err-clause-alone
returns-in-Err-clause-alone g c asks =
    let alone = c.in-Err.ensures.alone asks in (
      alone.0,
      run_stopped [] c.args.words.now c.in-Err.stop c.status.result.0
          (around [] (g.S.Sink.given c.args.out.now) (g.E.Sink.given c.args.report.now) (g.M.Meter.count c.args.meter.now))
          (around [] (g.S.Sink.given c.carry_out.new.out) (g.E.Sink.given c.carry_out.new.report) (g.M.Meter.count c.carry_out.new.meter))
          c.status.ensures alone.1,
    )
