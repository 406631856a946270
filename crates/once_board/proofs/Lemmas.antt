-- What the crates above may cite of the board.

-- rows: what each call makes of them, by the clauses of that call
pub use Rattle.once_board.proofs.RowSteps.{place_inside, other_place, rows_first, rows_may_claim, rows_put, rows_read, rows_stay, rows_kept, rows_off}
pub use Rattle.once_board.proofs.RowSteps.{rows_same, rows_fewer, rows_join, rows_told}
-- rows: who holds a row's right knows all that anyone does
pub use Rattle.once_board.proofs.RowSteps.{rows_of_holder}
-- the values of a row: they stay, a put or a look appends one, and what one seat read is a prefix of what another put
pub use Rattle.once_board.proofs.RowValues.{IsKnown, known_row, values_stay, values_appended, values_prefix, prefix_trans}
pub use Rattle.once_board.proofs.RowValues.{known_is_prefix, read_is_prefix, row_is_holders, length-row_values, row_values-at}
-- rows that may end: what may stand at the next place, and that a prefix of their values has no other ends
pub use Rattle.once_board.proofs.FilledRows.{count_of-replicate, used_few, fits_next, known_filled, known_end, filled_first}
pub use Rattle.once_board.proofs.FilledValues.{filled_known, ends_prefix}
-- seats of boards of such rows: what each call leaves of what holds of them, and what one knows of another's rows
pub use Rattle.once_board.proofs.RowSeating.{both_back, count_read, may_put_stays, seat_stays, seats_join, seat_puts, seat_put_one, seat_keeps, seat_goes}
pub use Rattle.once_board.proofs.RowSeating.{put_ends, all_known, no_more, read_prefix}
-- values that stay known
pub use Rattle.once_board.proofs.RowSteps.{value_stays}
-- seats that are joined one after another
pub use Rattle.once_board.proofs.Gathering.{gathered_none, gathered_next, gathered_twice}
-- what one seat knows and owns of another's
pub use Rattle.once_board.proofs.Gathering.{extends_same, extends_trans, extends_agree, owns_trans}
-- records of places, and numbers in lists
pub use Rattle.once_board.proofs.Records.{noted_here, noted_else, record_of-unread, record_of-together}
pub use Rattle.once_board.proofs.Sums.{times-append, times_here, times_else}
