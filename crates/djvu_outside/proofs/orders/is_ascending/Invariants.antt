use Rattle.std.proofs.Common.{◌≡◌, drop}
use Rattle.djvu_base.specs.Name.{is_ascending}
use Rattle.djvu_outside.proofs.orders.is_ascending.Given as goal

abbrev pub invariant-loop-index : goal.invariant-loop-index
invariant-loop-index l = is_ascending (drop l.index l.names) ≡ is_ascending l.names
