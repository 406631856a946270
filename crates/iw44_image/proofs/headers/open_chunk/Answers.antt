use Rattle.std.proofs.Common.{length, ◌∙◌, sym, ◌≤◌, arith}
use Rattle.iw44_image.proofs.Beginning.{chunk_read, inside_read, rest_all, serial_fits}
use Rattle.iw44_image.proofs.headers.open_chunk.Goals as goal

pub returns-in_default-clause-inside : goal.returns-in_default-clause-inside
returns-in_default-clause-inside c = c.missing.ensures.inside (length c.args.bytes.now)

pub returns-in_default-clause-sized : goal.returns-in_default-clause-sized
returns-in_default-clause-sized c = λ first. c.missing.ensures.sized c.args.limit

pub returns-then-from-number-clause-opening : goal.returns-then-from-number-clause-opening
returns-then-from-number-clause-opening c =
    chunk_read c.args.limit c.args.number c.args.known c.args.bytes.now _ c.args.ended c.read_rest.result c.behind.result c.in-len2-up.len_at_least
    (sym c.from.ensures ∙ c.if-from-number.true)
    c.behind.ensures.opening (rest_all 2 c.args.bytes.now) c.read_rest.ensures.opening

pub returns-then-from-number-clause-inside : goal.returns-then-from-number-clause-inside
returns-then-from-number-clause-inside c = inside_read 2 c.args.bytes.now _ c.read_rest.result c.behind.result c.in-len2-up.len_at_least
    (rest_all 2 c.args.bytes.now) c.read_rest.ensures.inside c.behind.ensures.inside

pub returns-then-from-number-clause-sized : goal.returns-then-from-number-clause-sized
returns-then-from-number-clause-sized c = λ first. c.behind.ensures.sized c.args.limit (c.read_rest.ensures.sized first)

pub returns-in_default-clause-serial : goal.returns-in_default-clause-serial
returns-in_default-clause-serial c = c.missing.ensures.serial c.args.number

pub returns-then-from-number-clause-serial : goal.returns-then-from-number-clause-serial
returns-then-from-number-clause-serial c =
    let fits : c.args.number ≤ 255 = omega (arith, c.from.ensures, c.if-from-number.true, c.type_inv.bytes 0) in
    serial_fits c.args.number c.behind.result fits
