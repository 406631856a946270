use Rattle.std.proofs.Common.{◌+◌, ◌*◌, ap, subst}
use Rattle.once_board.specs.Boards.{Looks}
use Rattle.once_board.specs.Numbers.{times}
use Rattle.once_board.proofs.Lemmas.{both_back, seat_stays}
use Rattle.port_log.specs.Entries.{is_end, may_stand}
use Rattle.port_log.specs.Logs.{IsSeatOf}
use Rattle.port_log.proofs.log.PortLog.see.Goals as goal

pub invariant_of-seat : goal.invariant_of-seat
invariant_of-seat c = record {
  few = c.seat.invariant.few;
  eight = c.seat.invariant.eight;
  filled = seat_stays is_end 260 _ _ c.self.invariant.laid (both_back IsSeatOf _ _ _ _ c.self.view_is c.seat.view_is c.requires.seat) c.seat.invariant.filled
      c.look.new.seat.hold c.look.ensures.extends c.look.ensures.owns (λ right. ap (times right) c.look.ensures.held.0);
}

pub returns-clause-answer : goal.returns-clause-answer
returns-clause-answer c =
    subst (λ v. Looks may_stand (c.args.page * 260 + c.args.at) v.hold c.look.new.seat.hold c.look.result) c.seat.view_is c.look.ensures.answer
