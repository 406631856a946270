use Rattle.std.proofs.Common.{refl, subst}
use Rattle.iff_chunks.specs.declared.stages.Stage.TheVariants as stage
use Rattle.iff_chunks.specs.Told.{Feeds}
use Rattle.iff_chunks.proofs.Moving.{feeds_behind}
use Rattle.iff_chunks.proofs.Heading.{form_word_lead, form_word_part}
use Rattle.iff_chunks.proofs.heads.word.Goals as goal

pub returns-in-Whole-clause-feeds : goal.returns-in-Whole-clause-feeds
returns-in-Whole-clause-feeds c =
    let got = c.new.result in
    let rest = subst (λ piece. Feeds (stage.Length c.args.offset got) piece c.length.result) c.rest_of.ensures c.length.ensures.feeds in
    let match = c.in-Whole.ensures in
    rw c.behind.ensures (feeds_behind (stage.Word c.args.offset c.args.matched) (stage.Length c.args.offset got) c.args.piece.now c.in-Whole.used
    c.length.result
    (form_word_lead c.args.offset c.args.matched c.in-Whole.used got c.args.piece.now c.new.ensures.bytes match.0 match.1 match.2) refl rest
    c.length.ensures.no_data tt)

pub returns-in-Part-clause-feeds : goal.returns-in-Part-clause-feeds
returns-in-Part-clause-feeds c =
    let match = c.in-Part.ensures in
    rw c.need_bytes.ensures (form_word_part c.args.offset c.args.matched c.in-Part.matched c.args.piece.now c.requires.early match.0 match.1 match.2)
