use Rattle.replay_core.proofs.Giving.{finds_so}
use Rattle.replay_core.proofs.core_calls.Core.result_of.Goals as goal

pub returns-clause-finds : goal.returns-clause-finds
returns-clause-finds g c =
    finds_so c.args.file c.args.self.now c.decode_once.new.self c.result_kept.result (g.M.Meter.count c.args.meter.now)
    (g.M.Meter.count c.decode_once.new.meter) c.decode_once.ensures.decodes c.result_kept.ensures.kept c.result_kept.ensures.known
