use Rattle.std.proofs.Common.{rules}
use Rattle.replay_core.specs.Script.{line_limit}
use Rattle.replay_core.proofs.script.line_limit.Goals as goal

pub returns : goal.returns
unfolding line_limit
returns c = search rules
