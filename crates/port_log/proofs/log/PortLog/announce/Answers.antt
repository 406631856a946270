use Rattle.std.proofs.Common.{◌≡◌, ◌∙◌, suc, ap, refl, arith, ◌<◌, ◌≤◌, length, length-set, get_or-set_same, subst, sym, set, false}
use Rattle.once_board.specs.Filled.{none_filled, count_of, one_further, HasFilled}
use Rattle.once_board.specs.Rows.{rows_in_turn}
use Rattle.once_board.proofs.Lemmas.{both_back, seat_puts, seat_put_one}
use Rattle.port_log.specs.Calls.{AnnouncedOne}
use Rattle.port_log.specs.Entries.{is_end}
use Rattle.port_log.specs.Logs.{LogSeatView, IsSeatOf, MayAnnounce, row_seat}
use Rattle.port_log.proofs.log.PortLog.announce.Goals as goal

-- the seat as it was
abbrev seat_of : goal.After-way_told-2-1 → LogSeatView
seat_of c = record {
  board = c.seat.inside.seat.board;
  hold = c.seat.inside.seat.hold;
  pages = c.seat.inside.pages;
  workers = c.seat.inside.workers;
  counts = c.seat.inside.counts;
}

next_is : (c : goal.After-way_told-2-1) → c.further-next.result ≡ one_further (is_end c.args.entry) (count_of c.seat.inside.counts c.args.page)
next_is c = c.further-next.ensures ∙ ap (λ b. one_further b (count_of c.seat.inside.counts c.args.page)) c.is_end.ensures

may : (c : goal.After-way_told-2-1) → MayAnnounce (seat_of c) c.args.page
may c = subst (λ v. MayAnnounce v c.args.page) (sym c.seat.view_is) c.requires.may

unended : (c : goal.After-way_told-2-1) → (count_of c.seat.inside.counts c.args.page).ended ≡ false
unended c = subst (λ v. (count_of v.counts c.args.page).ended ≡ false) (sym c.seat.view_is) c.requires.unended

room : (c : goal.After-way_told-2-1) → is_end c.args.entry ≡ false → suc (count_of c.seat.inside.counts c.args.page).filled < 260
room c goes_on = let low = subst (λ v. (count_of v.counts c.args.page).filled < 259) (sym c.seat.view_is) (c.requires.room goes_on) in omega arith

counted : (c : goal.After-way_told-2-1) → c.seat.inside.pages ≤ length c.seat.inside.counts
counted c = let few = c.seat.invariant.few in let eight = c.seat.invariant.eight in omega arith

pub invariant_of-seat : goal.invariant_of-seat
invariant_of-seat c =
    let s = seat_of c in
    record {
      few = c.seat.invariant.few;
      eight = length-set s.counts c.args.page c.further-next.result ∙ c.seat.invariant.eight;
      filled = subst (λ n. HasFilled is_end (rows_in_turn s.pages 260 s.workers) (set s.counts c.args.page n) c.fill.new.seat.hold) (sym (next_is c))
          (seat_puts is_end 260 _ (row_seat s) c.self.invariant.laid (both_back IsSeatOf _ _ _ _ c.self.view_is c.seat.view_is c.requires.seat)
          c.seat.invariant.filled c.args.page c.args.entry c.fill.new.seat.hold (may c) (counted c) (unended c) (room c) c.fill.ensures.filled
          c.fill.ensures.extends c.fill.ensures.place);
    }

pub returns-clause-entries : goal.returns-clause-entries
returns-clause-entries c =
    let s = seat_of c in
    let after : LogSeatView = record {
      board = c.fill.new.seat.board;
      hold = c.fill.new.seat.hold;
      pages = s.pages;
      workers = s.workers;
      counts = set s.counts c.args.page c.further-next.result;
    } in
    subst (λ v. AnnouncedOne c.args.page c.args.entry v after) c.seat.view_is
    (seat_put_one is_end 260 _ (row_seat s) c.self.invariant.laid (both_back IsSeatOf _ _ _ _ c.self.view_is c.seat.view_is c.requires.seat)
    c.seat.invariant.filled c.args.page c.args.entry c.fill.new.seat.hold (may c) (counted c) (unended c) (room c) c.fill.ensures.filled
    c.fill.ensures.extends c.fill.ensures.place (row_seat after) refl refl refl (ap (set s.counts c.args.page) (next_is c)))

pub returns-clause-count : goal.returns-clause-count
returns-clause-count c =
    let s = seat_of c in
    let eight = c.seat.invariant.eight in
    let few = c.seat.invariant.few in
    let inside = (may c).inside in
    get_or-set_same s.counts c.args.page c.further-next.result none_filled (omega arith)
    ∙ (next_is c ∙ ap (λ v. one_further (is_end c.args.entry) (count_of v.counts c.args.page)) c.seat.view_is)
