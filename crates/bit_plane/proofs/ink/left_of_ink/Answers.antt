use Rattle.std.proofs.Common.{◌<◌, ◌^◌, arith, rules}
use Rattle.bit_plane.proofs.InkLemmas.{left_found, left_step}
use Rattle.bit_plane.proofs.ink.left_of_ink.Goals as goal

pub overflow_add-result : goal.overflow_add-result
overflow_add-result c =
    let fits : c.inked_columns-ink.result < 2 ^ 64 = search rules in
    let found = left_found c.args.words.now c.args.width c.args.height c.loop-x.x c.min-count.result c.inked_columns-ink.result
    c.loop-x.invariant.0 c.inked_columns-ink.ensures c.if-ink-ne0.true fits (omega arith) in
    omega (arith, found.within)

pub returns-then-ink-ne0 : goal.returns-then-ink-ne0
returns-then-ink-ne0 c =
    let fits : c.inked_columns-ink.result < 2 ^ 64 = search rules in
    left_found c.args.words.now c.args.width c.args.height c.loop-x.x c.min-count.result c.inked_columns-ink.result
    c.loop-x.invariant.0 c.inked_columns-ink.ensures c.if-ink-ne0.true fits (omega arith)

pub loop-x-preserved : goal.loop-x-preserved
loop-x-preserved c = (
  left_step c.args.words.now c.args.width c.args.height c.loop-x.x c.min-count.result c.inked_columns-ink.result
      c.loop-x.invariant.0 c.inked_columns-ink.ensures c.if-ink-ne0.false,
  omega arith,
)
