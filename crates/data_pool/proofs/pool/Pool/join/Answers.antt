use Rattle.std.proofs.Common.{◌∙◌, length, subst, sym, arith}
use Rattle.std.proofs.lemmas.List.{with_items_is}
use Rattle.once_board.specs.Filled.{BroughtTogether, HasFilled}
use Rattle.once_board.specs.Rows.{rows_in_turn}
use Rattle.once_board.proofs.Lemmas.{both_back, seats_join}
use Rattle.data_pool.specs.Pieces.{is_end}
use Rattle.data_pool.specs.Pools.{IsSeatOf}
use Rattle.data_pool.proofs.pool.Pool.join.Goals as goal

brought : (c : goal.After-drop-counts) → BroughtTogether c.seat.inside.counts.items c.other.inside.counts.items c.bring_together.new.counts
brought c = subst (λ l. BroughtTogether l c.other.inside.counts.items c.bring_together.new.counts) c.deref_mut.ensures.value
    (subst (λ l. BroughtTogether c.deref_mut.result.now l c.bring_together.new.counts) c.deref.ensures.value c.bring_together.ensures)

pub invariant_of-seat : goal.invariant_of-seat
invariant_of-seat c =
    subst (λ l. HasFilled is_end (rows_in_turn (length l) 2_049 c.seat.inside.feeders) l c.join.new.seat.hold)
    (sym (with_items_is c.seat.inside.counts c.bring_together.new.counts (c.bring_together.ensures.same_length ∙ c.deref_mut.ensures.len)))
    (subst (λ n. HasFilled is_end (rows_in_turn n 2_049 c.seat.inside.feeders) c.bring_together.new.counts c.join.new.seat.hold)
    (sym (brought c).same_length)
    (seats_join is_end 2_049 _ _ c.self.invariant.laid (both_back IsSeatOf _ _ _ _ c.self.view_is c.seat.view_is c.requires.seats.0) c.seat.invariant
    _ c.bring_together.new.counts c.join.new.seat.hold (both_back IsSeatOf _ _ _ _ c.self.view_is c.other.view_is c.requires.seats.1)
    c.join.ensures.extends c.join.ensures.owns c.join.ensures.rights c.other.invariant (omega arith) (brought c)))
