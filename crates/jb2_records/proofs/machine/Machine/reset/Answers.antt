use Rattle.jb2_records.proofs.Entering.{reset_adds}
use Rattle.jb2_records.proofs.machine.Machine.reset.Goals as goal

pub returns-clause-holds : goal.returns-clause-holds
returns-clause-holds c input stays =
    c.next_record.ensures.holds input (reset_adds input c.args.self.now c.reset_numbers.new.self c.requires.started
    (λ at stands. c.reset_numbers.ensures.stands input.chunk at stands) stays)
