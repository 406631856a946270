use Rattle.jb2_records.proofs.Asking.{refined_begun}
use Rattle.jb2_records.proofs.machine.Machine.beside.Goals as goal

pub returns-in-Ok-clause-moves : goal.returns-in-Ok-clause-moves
returns-in-Ok-clause-moves c input holds = refined_begun input c.args.kept c.args.number c.args.width c.args.height c.in-Ok.reader c.args.self.now
    c.ready.ensures c.in-Ok.ensures holds
