use Rattle.jb2_records.proofs.Entering.{start_adds}
use Rattle.jb2_records.proofs.machine.Machine.start.Goals as goal

pub returns-in-Ok-clause-moves : goal.returns-in-Ok-clause-moves
returns-in-Ok-clause-moves c input holds =
    c.next_record.ensures.holds input
    (start_adds input c.args.width c.args.height c.args.flag c.args.self.now c.start.new.self c.in-Ok.picture
    c.requires.0 c.requires.1.0 c.requires.1.1 holds c.in-Ok.ensures
    (c.start.ensures.keeps input holds.before _ _ c.args.flag holds.keeps))
