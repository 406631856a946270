use Rattle.std.proofs.Common.{refl, subst}
use Rattle.iff_chunks.specs.declared.stages.Stage.TheVariants as stage
use Rattle.iff_chunks.specs.Told.{Feeds}
use Rattle.iff_chunks.proofs.Moving.{feeds_behind}
use Rattle.iff_chunks.proofs.Heading.{magic_lead, magic_part}
use Rattle.iff_chunks.proofs.heads.magic.Goals as goal

pub returns-in-Whole-clause-feeds : goal.returns-in-Whole-clause-feeds
returns-in-Whole-clause-feeds c =
    let rest = subst (λ piece. Feeds (stage.Word 4 0) piece c.word.result) c.rest_of.ensures c.word.ensures.feeds in
    let match = c.in-Whole.ensures in
    rw c.behind.ensures (feeds_behind (stage.Magic c.args.matched) (stage.Word 4 0) c.args.piece.now c.in-Whole.used c.word.result
    (magic_lead c.args.matched c.in-Whole.used c.args.piece.now match.0 match.1 match.2) refl rest c.word.ensures.no_data tt)

pub returns-in-Part-clause-feeds : goal.returns-in-Part-clause-feeds
returns-in-Part-clause-feeds c =
    let match = c.in-Part.ensures in
    rw c.need_bytes.ensures (magic_part c.args.matched c.in-Part.matched c.args.piece.now match.0 match.1 match.2)
