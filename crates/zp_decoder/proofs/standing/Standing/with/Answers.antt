use Rattle.std.proofs.Common.{◌+◌, arith}
use Rattle.zp_decoder.proofs.Keeping.{with_first, with_later}
use Rattle.zp_decoder.proofs.standing.Standing.with.Goals as goal

pub returns-clause-first : goal.returns-clause-first
returns-clause-first c payload stands =
    with_first payload c.args.byte c.code_with.result c.args.self c.with.result stands c.requires.room
    (c.code_with.ensures.start payload (omega (arith, stands.spare)) stands.code)
    (c.with.ensures payload 16 (omega (arith, stands.spare)) stands.words)

pub returns-clause-later : goal.returns-clause-later
returns-clause-later c payload at taken stands =
    with_later payload c.args.byte c.code_with.result at c.args.self c.with.result stands c.requires.room (c.code_with.ensures.same (omega arith))
    (c.with.ensures payload (16 + at.n) (omega (arith, stands.spare, taken)) stands.words)
