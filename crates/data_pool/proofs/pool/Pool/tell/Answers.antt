use Rattle.std.proofs.Common.{ap}
use Rattle.once_board.specs.Numbers.{times}
use Rattle.once_board.proofs.Lemmas.{both_back, seat_stays}
use Rattle.data_pool.specs.Pieces.{is_end}
use Rattle.data_pool.specs.Pools.{IsSeatOf}
use Rattle.data_pool.proofs.pool.Pool.tell.Goals as goal

pub invariant_of-to : goal.invariant_of-to
invariant_of-to c =
    seat_stays is_end 2_049 _ _ c.self.invariant.laid (both_back IsSeatOf _ _ _ _ c.self.view_is c.to.view_is c.requires.seats.0) c.to.invariant
    c.tell.new.to.hold c.tell.ensures.extends.0 c.tell.ensures.owns.0 (λ right. ap (λ h. times right h.rights) c.tell.ensures.told)
