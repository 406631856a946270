use Rattle.jb2_shapes.proofs.Running.{set_is}
use Rattle.jb2_shapes.proofs.rows.is_set.Goals as goal

pub returns : goal.returns
returns c colour e = set_is c.args.word c.args.at colour e
