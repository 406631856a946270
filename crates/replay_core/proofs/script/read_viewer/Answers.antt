use Rattle.std.proofs.Common.{rules}
use Rattle.replay_core.specs.Script.{last_viewer}
use Rattle.replay_core.proofs.script.read_viewer.Goals as goal

pub returns : goal.returns
unfolding last_viewer
returns c = search rules
