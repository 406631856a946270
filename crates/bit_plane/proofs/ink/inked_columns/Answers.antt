use Rattle.bit_plane.proofs.InkLemmas.{ink_none, ink_more}
use Rattle.bit_plane.proofs.ink.inked_columns.Goals as goal

pub loop-y-init : goal.loop-y-init
loop-y-init c = ink_none c.args.words.now c.args.width c.args.x c.args.count

pub loop-y-preserved : goal.loop-y-preserved
loop-y-preserved c =
    ink_more c.args.words.now c.args.width c.args.x c.args.count c.loop-y.y c.loop-y.ink c.read_bits-ink.result
    c.loop-y.invariant c.read_bits-ink.ensures.below c.read_bits-ink.ensures.bits
