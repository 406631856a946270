use Rattle.std.proofs.Common.{◌≡◌, ◌-◌, suc, arith}
use Rattle.jb2_records.specs.Steps.{behind}
use Rattle.jb2_records.proofs.Stepping.{at_bytes, text_adds}
use Rattle.jb2_records.proofs.machine.Machine.comment.Goals as goal

pub returns-then-left-eq0-clause-holds : goal.returns-then-left-eq0-clause-holds
returns-then-left-eq0-clause-holds c input bytes stays =
    let none : c.args.left ≡ 0 = omega arith in
    c.next_record.ensures.holds input (text_adds input c.args.self.now (at_bytes input c.args.left 0 bytes c.args.self.now none stays))

pub returns-else-left-eq0-clause-holds : goal.returns-else-left-eq0-clause-holds
unfolding behind
returns-else-left-eq0-clause-holds c input bytes stays =
    let some : c.args.left ≡ suc (c.args.left - 1) = omega arith in
    c.ask.ensures.asks input (at_bytes input c.args.left (suc (c.args.left - 1)) bytes c.args.self.now some stays)
