use Rattle.std.proofs.Common.{◌≡◌, ◌∙◌, suc, ap, refl, arith, length, length-set, ◌<◌, subst, sym, set, false, Some}
use Rattle.once_board.specs.declared.counts.RowCount.{RowCount}
use Rattle.once_board.specs.Filled.{count_of, one_further, HasFilled}
use Rattle.once_board.specs.Holds.{put_at, won}
use Rattle.once_board.specs.Places.{record_of}
use Rattle.once_board.specs.Rows.{rows_in_turn}
use Rattle.once_board.proofs.Lemmas.{both_back, count_read, seat_puts, seat_put_one}
use Rattle.data_pool.specs.Calls.{filled, PutOne}
use Rattle.data_pool.specs.Pieces.{is_end}
use Rattle.data_pool.specs.Pools.{PoolSeatView, IsSeatOf, MayFeed, row_seat, place_of}
use Rattle.data_pool.proofs.pool.Pool.fill.Goals as goal

-- the seat as it was
abbrev seat_of : goal.After-seat-1 → PoolSeatView
seat_of c = record { board = c.seat.inside.seat.board; hold = c.seat.inside.seat.hold; feeders = c.seat.inside.feeders; counts = c.seat.inside.counts.items }

count_is : (c : goal.After-seat-1) → c.index-count.result.now ≡ count_of c.seat.inside.counts.items c.args.file
count_is c =
    let inside = subst (λ v. MayFeed v c.args.file) (sym c.seat.view_is) c.requires.may in
    count_read c.seat.inside.counts.items c.args.file c.index-count.result.now inside.inside c.index-count.ensures

next_is : (c : goal.After-seat-1)
    → c.further-next.result ≡ one_further (is_end c.args.piece) (count_of c.seat.inside.counts.items c.args.file)
next_is c = c.further-next.ensures ∙ (λ i. one_further (c.is_end.ensures i) (count_is c i))

hold_is : (c : goal.After-seat-1) → c.fill.new.seat.hold ≡ (filled c.args.file c.args.piece (seat_of c)).hold
hold_is c = c.fill.ensures.filled
    ∙ ap (λ (n : RowCount). put_at (place_of c.args.file n.filled) c.args.piece (won (place_of c.args.file n.filled) c.seat.inside.seat.hold)) (count_is c)

value_is : (c : goal.After-seat-1)
    → (record_of c.fill.new.seat.hold.places (place_of c.args.file (count_of c.seat.inside.counts.items c.args.file).filled)).value ≡ Some c.args.piece
value_is c = ap (λ (n : RowCount). (record_of c.fill.new.seat.hold.places (place_of c.args.file n.filled)).value) (sym (count_is c)) ∙ c.fill.ensures.place

may : (c : goal.After-seat-1) → MayFeed (seat_of c) c.args.file
may c = subst (λ v. MayFeed v c.args.file) (sym c.seat.view_is) c.requires.may

unended : (c : goal.After-seat-1) → (count_of c.seat.inside.counts.items c.args.file).ended ≡ false
unended c = subst (λ v. (count_of v.counts c.args.file).ended ≡ false) (sym c.seat.view_is) c.requires.unended

room : (c : goal.After-seat-1) → is_end c.args.piece ≡ false → suc (count_of c.seat.inside.counts.items c.args.file).filled < 2_049
room c goes_on = let low = subst (λ v. (count_of v.counts c.args.file).filled < 2_048) (sym c.seat.view_is) (c.requires.room goes_on) in omega arith

pub invariant_of-seat : goal.invariant_of-seat
invariant_of-seat c =
    let s = seat_of c in
    subst (λ n. HasFilled is_end (rows_in_turn (length (set s.counts c.args.file n)) 2_049 s.feeders) (set s.counts c.args.file n) c.fill.new.seat.hold)
    (sym (next_is c))
    (subst (λ n. HasFilled is_end (rows_in_turn n 2_049 s.feeders)
    (set s.counts c.args.file (one_further (is_end c.args.piece) (count_of s.counts c.args.file))) c.fill.new.seat.hold)
    (sym (length-set s.counts c.args.file (one_further (is_end c.args.piece) (count_of s.counts c.args.file))))
    (seat_puts is_end 2_049 _ (row_seat s) c.self.invariant.laid (both_back IsSeatOf _ _ _ _ c.self.view_is c.seat.view_is c.requires.seat) c.seat.invariant
    c.args.file c.args.piece c.fill.new.seat.hold (may c) (omega arith) (unended c) (room c) (hold_is c) c.fill.ensures.extends (value_is c)))

pub returns-clause-filled : goal.returns-clause-filled
returns-clause-filled c =
    let s = seat_of c in
    (λ i. record {
      board = c.fill.ensures.board i;
      hold = hold_is c i;
      feeders = s.feeders;
      counts = set s.counts c.args.file (next_is c i);
    }) ∙ ap (filled c.args.file c.args.piece) c.seat.view_is

pub returns-clause-put : goal.returns-clause-put
returns-clause-put c =
    let s = seat_of c in
    let after : PoolSeatView = record {
      board = c.fill.new.seat.board;
      hold = c.fill.new.seat.hold;
      feeders = s.feeders;
      counts = set s.counts c.args.file c.further-next.result;
    } in
    subst (λ v. PutOne c.args.file c.args.piece v after) c.seat.view_is
    (seat_put_one is_end 2_049 _ (row_seat s) c.self.invariant.laid (both_back IsSeatOf _ _ _ _ c.self.view_is c.seat.view_is c.requires.seat)
    c.seat.invariant c.args.file c.args.piece c.fill.new.seat.hold (may c) (omega arith) (unended c) (room c) (hold_is c) c.fill.ensures.extends (value_is c)
    (row_seat after) refl (length-set s.counts c.args.file c.further-next.result) refl (ap (set s.counts c.args.file) (next_is c)))
