use Rattle.std.proofs.Common.{rules}
use Rattle.djvu_base.specs.Library.{file_limit}
use Rattle.replay_core.proofs.script.read_count.Goals as goal

pub returns : goal.returns
unfolding file_limit
returns c = search rules
