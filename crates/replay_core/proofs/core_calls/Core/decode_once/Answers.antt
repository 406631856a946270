use Rattle.replay_core.proofs.Giving.{decodes_nothing}
use Rattle.replay_core.proofs.core_calls.Core.decode_once.Goals as goal

pub returns-else-is_undecoded-clause-decodes : goal.returns-else-is_undecoded-clause-decodes
returns-else-is_undecoded-clause-decodes g c = decodes_nothing c.args.file c.args.self.now (g.M.Meter.count c.args.meter.now)
