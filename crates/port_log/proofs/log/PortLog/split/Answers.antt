use Rattle.std.proofs.Common.{◌≡◌, ◌∙◌, ℕ, ◌≤◌, arith, subst, sym, Some}
use Rattle.once_board.specs.Filled.{HandedOver, HasFilled}
use Rattle.once_board.specs.Numbers.{times}
use Rattle.once_board.specs.Rows.{rows_in_turn}
use Rattle.once_board.proofs.Lemmas.{both_back, seat_keeps, seat_goes}
use Rattle.port_log.specs.Entries.{is_end}
use Rattle.port_log.specs.Logs.{LogSeatView, IsSeatOf, row_seat}
use Rattle.port_log.proofs.log.PortLog.split.Goals as goal

pub split-off-requires-clause-right : goal.split-off-requires-clause-right
split-off-requires-clause-right c = λ r is. subst (λ v. 1 ≤ times r v.hold.rights) (sym c.seat.view_is) (c.requires.right r is)

pub invariant_of-seat : goal.invariant_of-seat
invariant_of-seat c =
    let s : LogSeatView = record {
      board = c.seat.inside.seat.board;
      hold = c.seat.inside.seat.hold;
      pages = c.seat.inside.pages;
      workers = c.seat.inside.workers;
      counts = c.seat.inside.counts;
    } in
    let of_log : IsSeatOf _ s = both_back IsSeatOf _ _ _ _ c.self.view_is c.seat.view_is c.requires.seat in
    let handed : HandedOver c.args.right s.workers s.counts c.hand_over.new.counts c.hand_over.new.off
    = subst (λ n. HandedOver c.args.right n s.counts c.hand_over.new.counts c.hand_over.new.off) (sym of_log.same_rights) c.hand_over.ensures in
    record {
      few = c.seat.invariant.few;
      eight = handed.same_length ∙ c.seat.invariant.eight;
      filled = subst (HasFilled is_end (rows_in_turn s.pages 260 s.workers) c.hand_over.new.counts) (sym c.split-off.ensures.kept)
          (seat_keeps is_end 260 (row_seat s) c.args.right c.hand_over.new.counts c.hand_over.new.off c.seat.invariant.filled
          (λ r is. subst (λ v. 1 ≤ times r v.hold.rights) (sym c.seat.view_is) (c.requires.right r is)) c.laws.ensures.rights_once
          (let few = c.seat.invariant.few in let eight = c.seat.invariant.eight in omega arith) handed);
    }

pub invariant_of-result : goal.invariant_of-result
invariant_of-result c =
    let s : LogSeatView = record {
      board = c.seat.inside.seat.board;
      hold = c.seat.inside.seat.hold;
      pages = c.seat.inside.pages;
      workers = c.seat.inside.workers;
      counts = c.seat.inside.counts;
    } in
    let of_log : IsSeatOf _ s = both_back IsSeatOf _ _ _ _ c.self.view_is c.seat.view_is c.requires.seat in
    let handed : HandedOver c.args.right s.workers s.counts c.hand_over.new.counts c.hand_over.new.off
    = subst (λ n. HandedOver c.args.right n s.counts c.hand_over.new.counts c.hand_over.new.off) (sym of_log.same_rights) c.hand_over.ensures in
    record {
      few = c.self.invariant.few;
      eight = handed.length_off ∙ c.seat.invariant.eight;
      filled = subst (λ n. HasFilled is_end (rows_in_turn n 260 c.self.inside.workers) c.hand_over.new.off c.split-off.result.hold) of_log.same_rows
          (subst (λ n. HasFilled is_end (rows_in_turn s.pages 260 n) c.hand_over.new.off c.split-off.result.hold) of_log.same_rights
          (subst (HasFilled is_end (rows_in_turn s.pages 260 s.workers) c.hand_over.new.off) (sym c.split-off.ensures.split_off)
          (seat_goes is_end 260 (row_seat s) c.args.right c.hand_over.new.counts c.hand_over.new.off c.seat.invariant.filled
          (λ r is. subst (λ v. 1 ≤ times r v.hold.rights) (sym c.seat.view_is) (c.requires.right r is)) c.laws.ensures.rights_once
          (let few = c.seat.invariant.few in let eight = c.seat.invariant.eight in omega arith) handed)));
    }
