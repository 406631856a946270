use Rattle.std.specs.Arc.{arc_value}
use Rattle.jb2_records.specs.Steps.{rest_of, behind}
use Rattle.jb2_records.proofs.Stepping.{at_use}
use Rattle.jb2_records.proofs.machine.Machine.shared.Goals as goal

pub returns-in-Both-clause-holds : goal.returns-in-Both-clause-holds
unfolding rest_of
returns-in-Both-clause-holds c input stays = at_use input c.args.made c.args.kept _ (arc_value c.args.shape) c.args.self.now c.in-Both.is stays

pub returns-in-Library-clause-holds : goal.returns-in-Library-clause-holds
unfolding rest_of
returns-in-Library-clause-holds c input stays = at_use input c.args.made c.args.kept _ (arc_value c.args.shape) c.args.self.now c.in-Library.is stays

pub returns-in-Image-clause-holds : goal.returns-in-Image-clause-holds
unfolding rest_of
returns-in-Image-clause-holds c input stays = at_use input c.args.made c.args.kept _ (arc_value c.args.shape) c.args.self.now c.in-Image.is stays

pub returns-in-Plain-clause-holds : goal.returns-in-Plain-clause-holds
unfolding behind
returns-in-Plain-clause-holds c input stays = c.ask.ensures.asks input (at_use input c.args.made c.args.kept _ (arc_value c.args.shape) c.args.self.now
    c.in-Plain.is stays)
