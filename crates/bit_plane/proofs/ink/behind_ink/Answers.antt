use Rattle.std.proofs.Common.{◌-◌, ◌<◌, ◌^◌, arith, rules}
use Rattle.bit_plane.proofs.InkLemmas.{behind_found, behind_step}
use Rattle.bit_plane.proofs.ink.behind_ink.Goals as goal

pub returns-then-ink-ne0 : goal.returns-then-ink-ne0
returns-then-ink-ne0 c =
    let fits : c.inked_columns-ink.result < 2 ^ 64 = search rules in
    behind_found c.args.words.now c.args.width c.args.height (c.loop-end.end - c.min-count.result) c.min-count.result c.loop-end.end c.inked_columns-ink.result
    (omega arith) c.loop-end.invariant.1 c.loop-end.invariant.0 c.inked_columns-ink.ensures c.if-ink-ne0.true fits

pub loop-end-preserved : goal.loop-end-preserved
loop-end-preserved c = (
  behind_step c.args.words.now c.args.width c.args.height (c.loop-end.end - c.min-count.result) c.min-count.result c.loop-end.end c.inked_columns-ink.result
      (omega arith) c.loop-end.invariant.0 c.inked_columns-ink.ensures c.if-ink-ne0.false,
  omega arith,
)
