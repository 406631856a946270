use Rattle.std.proofs.Common.{sym, ◌∙◌}
use Rattle.iff_chunks.proofs.Closing.{header_ended, header_short, header_cut_first, header_cut_later, first_none, not_first, some_there}
use Rattle.iff_chunks.proofs.ends.cut_at.Goals.{else-place-via-then-place+else-count-eq0, else-place-via-else-place}
use Rattle.iff_chunks.proofs.ends.cut_at.Goals as goal

pub returns-then-place-eq0 : goal.returns-then-place-eq0
returns-then-place-eq0 c = header_ended c.args.place c.args.got c.if-place-eq0.true

pub returns-then-place-lt8 : goal.returns-then-place-lt8
returns-then-place-lt8 c = header_short c.args.place c.args.got c.if-place-eq0.false c.if-place-lt8.true

pub returns-then-count-eq0 : goal.returns-then-count-eq0
returns-then-count-eq0 c =
    rw c.truncated.ensures (header_cut_first c.args.place c.args.got c.if-place-lt8.false c.requires.1
    (first_none c.args.place.is_first c.args.got.count c.if-place.true (sym c.count.ensures ∙ c.if-count-eq0.true)))

pub returns-else-place : goal.returns-else-place
returns-else-place c = rw c.truncated-else-place.ensures (header_cut_later c.args.place c.args.got c.if-place-lt8.false c.requires.1 (elim c.else-place.branch [
  | else-place-via-then-place+else-count-eq0 w ↦ some_there c.args.place.is_first c.args.got.count (λ e. w.if-count-eq0.false (w.count.ensures ∙ e))
  | else-place-via-else-place w ↦ not_first c.args.place.is_first c.args.got.count w.if-place.false
]))
