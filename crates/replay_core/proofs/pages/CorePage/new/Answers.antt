use Rattle.std.specs.Arc.{arc_value}
use Rattle.replay_core.proofs.Beginning.{begun}
use Rattle.replay_core.proofs.pages.CorePage.new.Goals as goal

pub returns-clause-begun : goal.returns-clause-begun
returns-clause-begun c = begun (arc_value c.args.table) (arc_value c.args.names) c.args.file c.new.result c.new.ensures.fed c.new.ensures.drawn
    c.new.ensures.decisions c.new.ensures.failed
