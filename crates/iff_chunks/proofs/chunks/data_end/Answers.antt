use Rattle.std.proofs.Common.{sym, ◌∙◌, arith}
use Rattle.iff_chunks.proofs.Passing.{end_unpadded, end_padded}
use Rattle.iff_chunks.proofs.chunks.data_end.Goals as goal

pub returns-then-is_padded : goal.returns-then-is_padded
returns-then-is_padded c = end_padded c.args.chunk c.args.piece.now c.requires (sym c.is_padded.ensures ∙ c.if-is_padded.true)

pub returns-else-is_padded : goal.returns-else-is_padded
returns-else-is_padded c =
    let fresh = c.new.ensures in
    rw c.place_behind.ensures (end_unpadded c.args.chunk c.new.result c.args.piece.now c.requires (sym c.is_padded.ensures ∙ c.if-is_padded.false) fresh.bytes
    (record { room = fresh.room; short = omega (arith, fresh.count) }))
