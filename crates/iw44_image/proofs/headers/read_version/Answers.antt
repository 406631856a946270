use Rattle.std.proofs.Common.{length}
use Rattle.iw44_image.proofs.Beginning.{version_read, inside_read, rest_all}
use Rattle.iw44_image.proofs.headers.read_version.Goals as goal

pub returns-in_default-clause-inside : goal.returns-in_default-clause-inside
returns-in_default-clause-inside c = c.missing.ensures.inside (length c.args.later.now)

pub returns-in_default-clause-sized : goal.returns-in_default-clause-sized
returns-in_default-clause-sized c = c.missing.ensures.sized c.args.limit

pub returns-then-minor-le2-clause-opening : goal.returns-then-minor-le2-clause-opening
returns-then-minor-le2-clause-opening c =
    version_read c.args.limit c.args.slices c.args.later.now _ c.args.ended
    c.read_sizes.result c.behind.result c.in-len2-up.len_at_least c.if-major-eq1.true c.if-minor-le2.true
    c.behind.ensures.opening (rest_all 2 c.args.later.now) c.read_sizes.ensures.opening

pub returns-then-minor-le2-clause-inside : goal.returns-then-minor-le2-clause-inside
returns-then-minor-le2-clause-inside c = inside_read 2 c.args.later.now _ c.read_sizes.result c.behind.result c.in-len2-up.len_at_least
    (rest_all 2 c.args.later.now) c.read_sizes.ensures.inside c.behind.ensures.inside

pub returns-then-minor-le2-clause-sized : goal.returns-then-minor-le2-clause-sized
returns-then-minor-le2-clause-sized c = c.behind.ensures.sized c.args.limit c.read_sizes.ensures.sized
