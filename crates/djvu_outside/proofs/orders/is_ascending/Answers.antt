use Rattle.std.proofs.Common.{◌≡◌, ◌-◌, length, arith, sym, ◌∙◌}
use Rattle.djvu_outside.proofs.OrderLemmas.{is_ascending-last}
use Rattle.djvu_outside.proofs.orders.is_ascending.Goals as goal

pub returns : goal.returns
returns c =
    let end : c.loop-index.index ≡ length c.args.names.now - 1 = omega arith in
    sym (is_ascending-last c.args.names.now) ∙ (rw end at c.loop-index.invariant)
