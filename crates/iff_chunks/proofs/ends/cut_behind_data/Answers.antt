use Rattle.std.proofs.Common.{sym, ◌∙◌, subst}
use Rattle.iff_chunks.specs.declared.stages.Stage.TheVariants as stage
use Rattle.iff_chunks.specs.Told.{Closes}
use Rattle.iff_chunks.proofs.Closing.{data_end_padded, data_end_unpadded}
use Rattle.iff_chunks.proofs.ends.cut_behind_data.Goals as goal

pub returns-then-is_padded : goal.returns-then-is_padded
returns-then-is_padded c = rw c.cut_before_pad.ensures (data_end_padded c.args.chunk (sym c.is_padded.ensures ∙ c.if-is_padded.true))

pub returns-else-is_padded : goal.returns-else-is_padded
returns-else-is_padded c =
    data_end_unpadded c.args.chunk c.new.result c.cut_at.result (sym c.is_padded.ensures ∙ c.if-is_padded.false) c.new.ensures.bytes
    (subst (λ p. Closes (stage.Header p c.new.result) c.cut_at.result) c.place_behind.ensures c.cut_at.ensures)
