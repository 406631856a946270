use Rattle.std.proofs.Common.{refl, sym, ap, subst, ◌∙◌, arith}
use Rattle.byteorder.specs.Endian.{big_number}
use Rattle.iff_chunks.specs.declared.stages.Stage.TheVariants as stage
use Rattle.iff_chunks.specs.Chunks.{length_fault}
use Rattle.iff_chunks.specs.Told.{Feeds}
use Rattle.iff_chunks.proofs.Moving.{feeds_behind, Leads}
use Rattle.iff_chunks.proofs.Heading.{Filled, length_part, length_breaks, length_lead}
use Rattle.iff_chunks.proofs.heads.length.Goals as goal

pub returns-then-count-lt4-clause-feeds : goal.returns-then-count-lt4-clause-feeds
returns-then-count-lt4-clause-feeds c =
    let fill = c.fill-used.ensures in
    let filled : Filled c.args.got c.fill-used.result.0 c.args.piece.now c.fill-used.result.1 4 =
    record { gathering = c.requires.some; few = omega arith; bytes = fill.bytes; count = fill.count; room = fill.room; most = fill.used } in
    rw c.need_bytes.ensures (length_part c.args.offset c.args.got c.fill-used.result.0 c.args.piece.now c.fill-used.result.1 filled
    (omega (arith, c.count.ensures, c.if-count-lt4.true)) c.requires.early)

pub returns-in-Some-clause-feeds : goal.returns-in-Some-clause-feeds
returns-in-Some-clause-feeds c =
    let fill = c.fill-used.ensures in
    let filled : Filled c.args.got c.fill-used.result.0 c.args.piece.now c.fill-used.result.1 4 =
    record { gathering = c.requires.some; few = omega arith; bytes = fill.bytes; count = fill.count; room = fill.room; most = fill.used } in
    let size = c.number-length.ensures ∙ ap (big_number 4) c.bytes.ensures in
    let fault = sym (ap (length_fault c.args.offset) size) ∙ sym c.in-Some.ensures.fault in
    rw c.breaks.ensures (length_breaks c.args.offset c.args.got c.fill-used.result.0 c.args.piece.now c.fill-used.result.1 c.in-Some.fault filled
    (omega (arith, c.count.ensures, c.if-count-lt4.false)) fault)

pub returns-in-None-clause-feeds : goal.returns-in-None-clause-feeds
returns-in-None-clause-feeds c =
    let fill = c.fill-used.ensures in
    let from = stage.Length c.args.offset c.args.got in
    let piece = c.args.piece.now in
    let used = c.fill-used.result.1 in
    let now = c.fill-used.result.0 in
    let fresh = c.new.result in
    let filled : Filled c.args.got now piece used 4 =
    record { gathering = c.requires.some; few = omega arith; bytes = fill.bytes; count = fill.count; room = fill.room; most = fill.used } in
    let size = c.number-length.ensures ∙ ap (big_number 4) c.bytes.ensures in
    let none = sym (ap (length_fault c.args.offset) size) ∙ sym c.in-None.ensures.fault in
    let lead =
    length_lead c.args.offset c.args.got now fresh piece used filled (omega (arith, c.count.ensures, c.if-count-lt4.false)) none c.new.ensures.bytes in
    let to : Leads from (stage.Kind c.args.offset c.number-length.result fresh) piece used =
    subst (λ n. Leads from (stage.Kind c.args.offset n fresh) piece used) (sym size) lead in
    let rest = subst (λ p. Feeds (stage.Kind c.args.offset c.number-length.result fresh) p c.kind.result) c.rest_of.ensures c.kind.ensures.feeds in
    rw c.behind.ensures (feeds_behind from (stage.Kind c.args.offset c.number-length.result fresh) piece used c.kind.result to refl rest c.kind.ensures.no_data
    tt)
