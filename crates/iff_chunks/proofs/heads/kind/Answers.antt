use Rattle.std.proofs.Common.{◌+◌, ◌-◌, true, sym, subst, ◌∙◌, arith}
use Rattle.iff_chunks.specs.declared.stages.Stage.TheVariants as stage
use Rattle.iff_chunks.specs.declared.walker.WalkStep.TheVariants as step
use Rattle.iff_chunks.specs.Told.{Feeds}
use Rattle.iff_chunks.proofs.Heading.{Filled, kind_part, kind_whole}
use Rattle.iff_chunks.proofs.heads.kind.Goals as goal

pub returns-then-count-lt4-clause-feeds : goal.returns-then-count-lt4-clause-feeds
returns-then-count-lt4-clause-feeds c =
    let fill = c.fill-used.ensures in
    let filled : Filled c.args.got c.fill-used.result.0 c.args.piece.now c.fill-used.result.1 4 =
    record { gathering = c.requires.some; few = omega arith; bytes = fill.bytes; count = fill.count; room = fill.room; most = fill.used } in
    rw c.need_bytes.ensures (kind_part c.args.offset c.args.length c.args.got c.fill-used.result.0 c.args.piece.now c.fill-used.result.1 filled
    (omega (arith, c.count.ensures, c.if-count-lt4.true)) c.requires.form)

pub returns-clause-feeds : goal.returns-clause-feeds
returns-clause-feeds c =
    let fill = c.fill-used.ensures in
    let filled : Filled c.args.got c.fill-used.result.0 c.args.piece.now c.fill-used.result.1 4 =
    record { gathering = c.requires.some; few = omega arith; bytes = fill.bytes; count = fill.count; room = fill.room; most = fill.used } in
    let kind = c.four-got_kind.ensures ∙ c.bytes.ensures in
    let fresh = c.new.ensures in
    subst (λ k. Feeds (stage.Kind c.args.offset c.args.length c.args.got) c.args.piece.now
    (record {
      used = c.fill-used.result.1;
      stage =
          stage.Header (record { offset = c.args.offset + 12; left = c.args.length - 4; is_first = true }) c.new.result;
      step =
          step.Form k c.args.length;
    })) (sym kind)
    (kind_whole c.args.offset c.args.length c.args.got c.fill-used.result.0 c.new.result c.args.piece.now c.fill-used.result.1 filled
    (omega (arith, c.count.ensures, c.if-count-lt4.false)) c.requires.form fresh.bytes (record { room = fresh.room; short = omega (arith, fresh.count) }))
