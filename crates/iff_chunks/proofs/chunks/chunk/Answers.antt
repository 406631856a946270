use Rattle.std.proofs.Common.{arith}
use Rattle.iff_chunks.proofs.Heading.{Filled}
use Rattle.iff_chunks.proofs.Chunking.{chunk_begins, chunk_part, chunk_ends, chunk_short}
use Rattle.iff_chunks.proofs.chunks.chunk.Goals as goal

pub returns-then-place-eq0-clause-feeds : goal.returns-then-place-eq0-clause-feeds
returns-then-place-eq0-clause-feeds c = rw c.ends.ensures (chunk_ends c.args.place c.args.got c.args.piece.now c.if-place-eq0.true)

pub returns-then-place-lt8-clause-feeds : goal.returns-then-place-lt8-clause-feeds
returns-then-place-lt8-clause-feeds c = rw c.breaks.ensures (chunk_short c.args.place c.args.got c.args.piece.now c.if-place-eq0.false c.if-place-lt8.true)

pub returns-then-count-lt8-clause-feeds : goal.returns-then-count-lt8-clause-feeds
returns-then-count-lt8-clause-feeds c =
    let fill = c.fill-used.ensures in
    let filled : Filled c.args.got c.fill-used.result.0 c.args.piece.now c.fill-used.result.1 8 =
    record { gathering = c.requires.some; few = omega arith; bytes = fill.bytes; count = fill.count; room = fill.room; most = fill.used } in
    rw c.need_bytes.ensures (chunk_part c.args.place c.args.got c.fill-used.result.0 c.args.piece.now c.fill-used.result.1 filled
    (omega (arith, c.count.ensures, c.if-count-lt8.true)) c.if-place-lt8.false c.requires.fits)

pub returns-clause-feeds : goal.returns-clause-feeds
returns-clause-feeds c =
    let fill = c.fill-used.ensures in
    let filled : Filled c.args.got c.fill-used.result.0 c.args.piece.now c.fill-used.result.1 8 =
    record { gathering = c.requires.some; few = omega arith; bytes = fill.bytes; count = fill.count; room = fill.room; most = fill.used } in
    rw c.begun.ensures (rw c.bytes.ensures
    (chunk_begins c.args.place c.args.got c.fill-used.result.0 c.args.piece.now c.fill-used.result.1 filled
    (omega (arith, c.count.ensures, c.if-count-lt8.false)) c.if-place-lt8.false c.requires.fits))
