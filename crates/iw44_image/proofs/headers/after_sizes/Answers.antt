use Rattle.std.proofs.Common.{length}
use Rattle.iw44_image.proofs.headers.after_sizes.Goals as goal

pub returns-in-empty-clause-inside : goal.returns-in-empty-clause-inside
returns-in-empty-clause-inside c = c.missing.ensures.inside (length c.args.later.now)

pub returns-in-empty-clause-sized : goal.returns-in-empty-clause-sized
returns-in-empty-clause-sized c = c.missing.ensures.sized c.args.limit
