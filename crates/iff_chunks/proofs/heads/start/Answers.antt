use Rattle.std.proofs.Common.{refl, subst, sym}
use Rattle.std.proofs.lemmas.Option.{slice_get_within}
use Rattle.iff_chunks.specs.declared.stages.Stage.TheVariants as stage
use Rattle.iff_chunks.specs.Told.{Feeds}
use Rattle.iff_chunks.proofs.Moving.{feeds_behind}
use Rattle.iff_chunks.proofs.Heading.{first_byte, start_magic, start_word}
use Rattle.iff_chunks.proofs.heads.start.Goals as goal

pub returns-in-Some-eq65 : goal.returns-in-Some-eq65
returns-in-Some-eq65 c =
    let value = c.in-Some-eq65.ensures.value in
    let first = first_byte c.args.piece.now 65 c.in-Some-eq65.field-0.now value c.in-Some-eq65.field-0-test in
    let rest = subst (λ piece. Feeds (stage.Magic 1) piece c.magic.result) c.rest_of.ensures c.magic.ensures.feeds in
    rw c.behind.ensures (feeds_behind stage.Start (stage.Magic 1) c.args.piece.now 1 c.magic.result
    (start_magic c.args.piece.now (slice_get_within c.args.piece.now 0 _ (sym value)) first) refl rest c.magic.ensures.no_data tt)

pub returns-in-Some-eq70 : goal.returns-in-Some-eq70
returns-in-Some-eq70 c =
    let value = c.in-Some-eq70.ensures.value in
    let first = first_byte c.args.piece.now 70 c.in-Some-eq70.field-0.now value c.in-Some-eq70.field-0-test in
    let rest = subst (λ piece. Feeds (stage.Word 0 1) piece c.word.result) c.rest_of-in-Some-eq70.ensures c.word.ensures.feeds in
    rw c.behind-in-Some-eq70.ensures
    (feeds_behind stage.Start (stage.Word 0 1) c.args.piece.now 1 c.word.result
    (start_word c.args.piece.now (slice_get_within c.args.piece.now 0 _ (sym value)) first) refl rest c.word.ensures.no_data tt)
