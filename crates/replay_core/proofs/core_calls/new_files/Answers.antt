use Rattle.replay_core.proofs.Beginning.{empty_push}
use Rattle.replay_core.proofs.core_calls.new_files.Goals as goal

pub loop-preserved : goal.loop-preserved
loop-preserved c = empty_push c.loop.counter c.loop.files.items c.new.result c.push.new.self.items c.loop.invariant c.new.ensures.empty c.new.ensures.page
    c.in_ok-push.ensures.items
