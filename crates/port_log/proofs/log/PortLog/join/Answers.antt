use Rattle.std.proofs.Common.{◌∙◌, arith}
use Rattle.once_board.proofs.Lemmas.{both_back, seats_join}
use Rattle.port_log.specs.Entries.{is_end}
use Rattle.port_log.specs.Logs.{IsSeatOf}
use Rattle.port_log.proofs.log.PortLog.join.Goals as goal

pub invariant_of-seat : goal.invariant_of-seat
invariant_of-seat c = record {
  few = c.seat.invariant.few;
  eight = c.bring_together.ensures.same_length ∙ c.seat.invariant.eight;
  filled = seats_join is_end 260 _ _ c.self.invariant.laid (both_back IsSeatOf _ _ _ _ c.self.view_is c.seat.view_is c.requires.seats.0)
      c.seat.invariant.filled _ c.bring_together.new.counts c.join.new.seat.hold
      (both_back IsSeatOf _ _ _ _ c.self.view_is c.other.view_is c.requires.seats.1) c.join.ensures.extends c.join.ensures.owns c.join.ensures.rights
      c.other.invariant.filled (let few = c.seat.invariant.few in let eight = c.seat.invariant.eight in omega arith) c.bring_together.ensures;
}
