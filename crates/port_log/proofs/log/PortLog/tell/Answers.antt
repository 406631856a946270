use Rattle.std.proofs.Common.{ap}
use Rattle.once_board.specs.Numbers.{times}
use Rattle.once_board.proofs.Lemmas.{both_back, seat_stays}
use Rattle.port_log.specs.Entries.{is_end}
use Rattle.port_log.specs.Logs.{IsSeatOf}
use Rattle.port_log.proofs.log.PortLog.tell.Goals as goal

pub invariant_of-to : goal.invariant_of-to
invariant_of-to c = record {
  few = c.to.invariant.few;
  eight = c.to.invariant.eight;
  filled = seat_stays is_end 260 _ _ c.self.invariant.laid (both_back IsSeatOf _ _ _ _ c.self.view_is c.to.view_is c.requires.seats.0) c.to.invariant.filled
      c.tell.new.to.hold c.tell.ensures.extends.0 c.tell.ensures.owns.0 (λ right. ap (λ h. times right h.rights) c.tell.ensures.told);
}
