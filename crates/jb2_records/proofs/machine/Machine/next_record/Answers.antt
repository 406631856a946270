use Rattle.jb2_records.proofs.Stepping.{next_stays}
use Rattle.djvu_base.proofs.Ticks.{saturated_once}
use Rattle.std.proofs.Common.{length}
use Rattle.jb2_records.proofs.machine.Machine.next_record.Goals as goal

pub returns-clause-holds : goal.returns-clause-holds
returns-clause-holds c input adds =
    c.ask.ensures.asks input (next_stays input c.args.self.now c.saturating_add-self.result adds
    (saturated_once (length adds.before) c.args.self.now.units c.saturating_add-self.result adds.count c.saturating_add-self.ensures))
