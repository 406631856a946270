use Rattle.std.proofs.Common.{◌≡◌, ◌∙◌, ℕ, arith, length, ◌≤◌, subst, sym, ap, Some}
use Rattle.std.proofs.lemmas.List.{with_items_is, length-replicate}
use Rattle.once_board.specs.Filled.{HandedOver, HasFilled, none_filled}
use Rattle.once_board.specs.Numbers.{times}
use Rattle.once_board.specs.Rows.{rows_in_turn}
use Rattle.once_board.proofs.Lemmas.{both_back, seat_keeps, seat_goes}
use Rattle.data_pool.specs.Pieces.{is_end}
use Rattle.data_pool.specs.Pools.{PoolSeatView, IsSeatOf, row_seat}
use Rattle.data_pool.proofs.pool.Pool.split.Goals as goal

pub split-off-requires-clause-right : goal.split-off-requires-clause-right
split-off-requires-clause-right c = λ r is. subst (λ v. 1 ≤ times r v.hold.rights) (sym c.seat.view_is) (c.requires.right r is)

-- the seat as it was
abbrev seat_of : goal.After-counts-3-1 → PoolSeatView
seat_of c = record { board = c.seat.inside.seat.board; hold = c.seat.inside.seat.hold; feeders = c.seat.inside.feeders; counts = c.seat.inside.counts.items }

held : (c : goal.After-counts-3-1) (r : ℕ) → c.args.right ≡ Some r → 1 ≤ times r c.seat.inside.seat.hold.rights
held c r is = subst (λ v. 1 ≤ times r v.hold.rights) (sym c.seat.view_is) (c.requires.right r is)

feeders_are : (c : goal.After-counts-3-1) → c.seat.inside.feeders ≡ c.self.inside.feeders
feeders_are c = (both_back IsSeatOf _ _ _ _ c.self.view_is c.seat.view_is c.requires.seat).same_rights

handed : (c : goal.After-counts-3-1)
    → HandedOver c.args.right c.seat.inside.feeders c.seat.inside.counts.items c.hand_over.new.counts c.hand_over.new.off
handed c = subst (λ l. HandedOver c.args.right c.seat.inside.feeders l c.hand_over.new.counts c.hand_over.new.off) c.deref_mut.ensures.value
    (subst (λ n. HandedOver c.args.right n c.deref_mut.result.now c.hand_over.new.counts c.hand_over.new.off) (sym (feeders_are c)) c.hand_over.ensures)

length_off : (c : goal.After-counts-3-1) → length c.hand_over.new.off ≡ c.in_ok-counts.counts.len
length_off c = (handed c).length_off
    ∙ (sym (ap length c.deref_mut.ensures.value) ∙ (c.deref_mut.ensures.len ∙ (sym c.len.ensures
    ∙ (sym (length-replicate c.len.result none_filled) ∙ (sym (ap length c.in_ok-counts.ensures)
    ∙ (sym (ap length c.deref_mut-2.ensures.value) ∙ c.deref_mut-2.ensures.len))))))

pub invariant_of-result : goal.invariant_of-result
invariant_of-result c =
    subst (λ l. HasFilled is_end (rows_in_turn (length l) 2_049 c.self.inside.feeders) l c.split-off.result.hold)
    (sym (with_items_is c.in_ok-counts.counts c.hand_over.new.off (length_off c)))
    (subst (λ n. HasFilled is_end (rows_in_turn (length c.hand_over.new.off) 2_049 n) c.hand_over.new.off c.split-off.result.hold) (feeders_are c)
    (subst (λ n. HasFilled is_end (rows_in_turn n 2_049 c.seat.inside.feeders) c.hand_over.new.off c.split-off.result.hold) (sym (handed c).length_off)
    (subst (HasFilled is_end (rows_in_turn (length c.seat.inside.counts.items) 2_049 c.seat.inside.feeders) c.hand_over.new.off)
    (sym c.split-off.ensures.split_off)
    (seat_goes is_end 2_049 (row_seat (seat_of c)) c.args.right c.hand_over.new.counts c.hand_over.new.off c.seat.invariant (held c)
    c.laws.ensures.rights_once (omega arith) (handed c)))))

pub invariant_of-seat : goal.invariant_of-seat
invariant_of-seat c =
    subst (λ l. HasFilled is_end (rows_in_turn (length l) 2_049 c.seat.inside.feeders) l c.split-off.new.seat.hold)
    (sym (with_items_is c.seat.inside.counts c.hand_over.new.counts
    ((handed c).same_length ∙ (sym (ap length c.deref_mut.ensures.value) ∙ c.deref_mut.ensures.len))))
    (subst (λ n. HasFilled is_end (rows_in_turn n 2_049 c.seat.inside.feeders) c.hand_over.new.counts c.split-off.new.seat.hold) (sym (handed c).same_length)
    (subst (HasFilled is_end (rows_in_turn (length c.seat.inside.counts.items) 2_049 c.seat.inside.feeders) c.hand_over.new.counts)
    (sym c.split-off.ensures.kept)
    (seat_keeps is_end 2_049 (row_seat (seat_of c)) c.args.right c.hand_over.new.counts c.hand_over.new.off c.seat.invariant (held c)
    c.laws.ensures.rights_once (omega arith) (handed c))))
