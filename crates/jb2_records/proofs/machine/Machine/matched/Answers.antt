use Rattle.jb2_records.specs.Steps.{rest_of, behind}
use Rattle.jb2_records.proofs.Stepping.{at_goal}
use Rattle.jb2_records.proofs.machine.Machine.matched.Goals as goal

pub returns-in-Refine-clause-holds : goal.returns-in-Refine-clause-holds
unfolding behind
returns-in-Refine-clause-holds c input stays = c.ask.ensures.asks input (at_goal input c.args.goal _ c.args.number c.args.self.now c.in-Refine.is stays)

pub returns-in-Copy-clause-holds : goal.returns-in-Copy-clause-holds
unfolding rest_of
returns-in-Copy-clause-holds c input stays = at_goal input c.args.goal _ c.args.number c.args.self.now c.in-Copy.is stays
