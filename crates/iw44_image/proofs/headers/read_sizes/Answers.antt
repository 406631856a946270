use Rattle.std.proofs.Common.{length, get_or, ◌+◌, ◌*◌, ap, ◌∙◌, ℕ}
use Rattle.iw44_image.specs.Header.{plain_header}
use Rattle.iw44_image.proofs.Beginning.{sizes_read, inside_read, rest_all}
use Rattle.iw44_image.proofs.headers.read_sizes.Goals as goal

pub returns-in_default-clause-inside : goal.returns-in_default-clause-inside
returns-in_default-clause-inside c = c.missing.ensures.inside (length c.args.later.now)

pub returns-in_default-clause-sized : goal.returns-in_default-clause-sized
returns-in_default-clause-sized c = c.missing.ensures.sized c.args.limit

pub returns-in-len4-up-clause-opening : goal.returns-in-len4-up-clause-opening
returns-in-len4-up-clause-opening c =
    sizes_read c.args.limit c.args.slices c.args.major c.args.minor c.args.later.now _ c.args.ended
    c.after_sizes.result c.behind.result c.in-len4-up.len_at_least c.behind.ensures.opening (rest_all 4 c.args.later.now)
    (c.after_sizes.ensures.opening c.args.major (256 * get_or c.args.later.now 0 0 + get_or c.args.later.now 1 0)
    (256 * get_or c.args.later.now 2 0 + get_or c.args.later.now 3 0)
    (c.plain_header-plain.ensures ∙ ap (λ (n : ℕ). plain_header c.args.major n c.number_of-in-len4-up.result) c.number_of.ensures.value
    ∙ ap (λ (n : ℕ). plain_header c.args.major (256 * get_or c.args.later.now 0 0 + get_or c.args.later.now 1 0) n) c.number_of-in-len4-up.ensures.value))

pub returns-in-len4-up-clause-inside : goal.returns-in-len4-up-clause-inside
returns-in-len4-up-clause-inside c = inside_read 4 c.args.later.now _ c.after_sizes.result c.behind.result c.in-len4-up.len_at_least
    (rest_all 4 c.args.later.now) c.after_sizes.ensures.inside c.behind.ensures.inside

pub returns-in-len4-up-clause-sized : goal.returns-in-len4-up-clause-sized
returns-in-len4-up-clause-sized c = c.behind.ensures.sized c.args.limit c.after_sizes.ensures.sized
