-- Seats of boards of rows that may end: what each call leaves of what holds of them, and what one knows of another's rows.
use Rattle.std.proofs.Common.{◌≡◌, ◌≢◌, ℕ, suc, ◌+◌, ◌*◌, ◌%◌, ◌<◌, ◌≤◌, List, [], ◌∷◌, ◌++◌, length, set, get_or, Bool, false, Option, Some, None}
use Rattle.std.proofs.Common.{sym, ap, subst, ◌∙◌, arith, get_or-set_same, get_or-set_other}
use Rattle.std.proofs.lemmas.List.{get_or_default}
use Rattle.once_board.specs.declared.counts.RowCount.{RowCount}
use Rattle.once_board.specs.declared.holds.Hold.{Hold}
use Rattle.once_board.specs.Filled.{HasFilled, HandedOver, BroughtTogether, EndsByLast, none_filled, count_of, one_further, used}
use Rattle.once_board.specs.Holds.{Extends, OwnsAll, put_at, won, split_kept, split_off}
use Rattle.once_board.specs.Numbers.{times}
use Rattle.once_board.specs.Places.{record_of}
use Rattle.once_board.specs.Rows.{Rows, IsLaid, IsPrefix, row_values, rows_in_turn}
use Rattle.once_board.specs.RowSeats.{RowBoardView, RowSeatView, IsRowBoard, IsSeatOf, MayPut, HoldsRow, KnowsOf, KnowsTo, PutOne}
use Rattle.once_board.specs.RowSeats.{rows_of, values, put_values}
use Rattle.once_board.proofs.RowValues.{known_is_prefix, row_is_holders}
use Rattle.once_board.proofs.FilledRows.{filled_stay, filled_put, filled_join, filled_kept, filled_off, used_few}
use Rattle.once_board.proofs.FilledValues.{filled_ends, values_put, values_kept}

-- what holds of two values holds of what they are equal to, as of a value and the fields that it shows
pub both_back : {A B : Type 0} (R : A → B → Type 0) (a a' : A) (b b' : B) → a ≡ a' → b ≡ b' → R a' b' → R a b
both_back R a a' b b' e e' holds = subst (λ z. R z b) (sym e) (subst (λ z. R a' z) (sym e') holds)

-- the count that was read from a list of counts
pub count_read : (counts : List RowCount) (row : ℕ) (count : RowCount) → row < length counts → count ≡ get_or counts row count
    → count ≡ count_of counts row
count_read counts row count inside is = is ∙ get_or_default counts row count none_filled inside

-- a seat with the same rights and parts may put where it might
pub may_put_stays : {T : Type 0} (board : RowBoardView) (seat after : RowSeatView T) → IsSeatOf board seat → IsSeatOf board after
    → after.hold.rights ≡ seat.hold.rights → after.hold.parts ≡ seat.hold.parts → (row : ℕ) → MayPut seat row → MayPut after row
may_put_stays board seat after is is_after rights parts row may =
    let round : after.rights ≡ seat.rights = is_after.same_rights ∙ sym is.same_rights in
    let same : times (row % after.rights) after.hold.rights ≡ times (row % seat.rights) seat.hold.rights = (λ i. times (row % round i) (rights i)) in
    let rows : after.rows ≡ seat.rows = is_after.same_rows ∙ sym is.same_rows in
    record {
      inside = let below = may.inside in omega arith;
      right = let held = may.right in omega arith;
      part = let some = may.part in omega arith;
    }

module _ {T : Type 0} (is_end : T → Bool) (width : ℕ) (board : RowBoardView) (seat : RowSeatView T) (is_board : IsRowBoard width board)
    (is : IsSeatOf board seat) (old : HasFilled is_end (rows_of width seat) seat.counts seat.hold) where
  laid_for : IsLaid (rows_of width seat) board.board.owners
  laid_for = subst (λ n. IsLaid (rows_in_turn n width seat.rights) board.board.owners) (sym is.same_rows)
      (subst (λ n. IsLaid (rows_in_turn board.rows width n) board.board.owners) (sym is.same_rights) is_board.laid)

  -- a look, or a telling
  pub seat_stays : (after : Hold T) → Extends seat.hold after → OwnsAll board.board.owners seat.hold after
      → ((right : ℕ) → times right after.rights ≡ times right seat.hold.rights) → HasFilled is_end (rows_of width seat) seat.counts after
  seat_stays after extends owns rights = filled_stay is_end (rows_of width seat) board.board.owners seat.counts seat.hold after laid_for extends owns rights old

  -- a seat was joined
  pub seats_join : (other : RowSeatView T) (counts : List RowCount) (after : Hold T) → IsSeatOf board other
      → Extends seat.hold after × Extends other.hold after
      → OwnsAll board.board.owners seat.hold after × OwnsAll board.board.owners other.hold after
      → ((right : ℕ) → times right after.rights ≡ times right seat.hold.rights + times right other.hold.rights)
      → HasFilled is_end (rows_of width other) other.counts other.hold → seat.rows ≤ length seat.counts → BroughtTogether seat.counts other.counts counts
      → HasFilled is_end (rows_of width seat) counts after
  seats_join other counts after is_other extends owns rights old_other counted brought =
      let rows : other.rows ≡ seat.rows = is_other.same_rows ∙ sym is.same_rows in
      let round : other.rights ≡ seat.rights = is_other.same_rights ∙ sym is.same_rights in
      let theirs : HasFilled is_end (rows_of width seat) other.counts other.hold
      = subst (λ n. HasFilled is_end (rows_in_turn n width seat.rights) other.counts other.hold) rows
      (subst (λ n. HasFilled is_end (rows_in_turn other.rows width n) other.counts other.hold) round old_other) in
      filled_join is_end (rows_of width seat) board.board.owners seat.counts other.counts counts seat.hold other.hold after laid_for extends.0 extends.1
      owns.0 owns.1 rights old theirs (λ row r. brought.each row (omega arith))

  -- one more value was put into a row
  module _ (row : ℕ) (x : T) (after : Hold T) (may : MayPut seat row) (counted : seat.rows ≤ length seat.counts)
      (unended : (count_of seat.counts row).ended ≡ false) (room : is_end x ≡ false → suc (count_of seat.counts row).filled < width)
      (now : after ≡ put_at (row * width + (count_of seat.counts row).filled) x (won (row * width + (count_of seat.counts row).filled) seat.hold))
      (extends : Extends seat.hold after)
      (has : (record_of after.places (row * width + (count_of seat.counts row).filled)).value ≡ Some x) where
    abbrev counts_then : List RowCount
    counts_then = set seat.counts row (one_further (is_end x) (count_of seat.counts row))

    here : count_of counts_then row ≡ one_further (is_end x) (count_of seat.counts row)
    here = get_or-set_same seat.counts row (one_further (is_end x) (count_of seat.counts row)) none_filled (let r = may.inside in omega arith)

    elsewhere : (other : ℕ) → other ≢ row → count_of counts_then other ≡ count_of seat.counts other
    elsewhere other ne = get_or-set_other seat.counts row other (one_further (is_end x) (count_of seat.counts row)) none_filled ne

    pub seat_puts : HasFilled is_end (rows_of width seat) counts_then after
    seat_puts = filled_put is_end (rows_of width seat) board.board.owners seat.counts counts_then row x seat.hold after laid_for old may.inside unended
        room now extends has here elsewhere may.right

    -- the values of each row
    pub seat_put_one : (view : RowSeatView T) → view.hold ≡ after → view.rows ≡ seat.rows → view.rights ≡ seat.rights → view.counts ≡ counts_then
        → PutOne width row x seat view
    seat_put_one view hold rows round counts = record {
      grown = (λ i. row_values (rows_in_turn (rows i) width (round i)) (hold i) row (used (count_of (counts i) row)))
          ∙ values_put is_end (rows_of width seat) seat.counts seat.hold old row may.inside counts_then after extends x unended has here;
      others = λ other inside ne.
          (λ i. row_values (rows_in_turn (rows i) width (round i)) (hold i) other (used (count_of (counts i) other)))
          ∙ values_kept is_end (rows_of width seat) seat.counts seat.hold old other inside counts_then after extends (elsewhere other ne);
    }

-- a seat is split off
module _ {T : Type 0} (is_end : T → Bool) (width : ℕ) (seat : RowSeatView T) (right : Option ℕ) (kept_counts off_counts : List RowCount)
    (old : HasFilled is_end (rows_of width seat) seat.counts seat.hold)
    (has : (x : ℕ) → right ≡ Some x → 1 ≤ times x seat.hold.rights) (once : (x : ℕ) → times x seat.hold.rights ≤ 1)
    (counted : seat.rows ≤ length seat.counts) (handed : HandedOver right seat.rights seat.counts kept_counts off_counts) where
  pub seat_keeps : HasFilled is_end (rows_of width seat) kept_counts (split_kept right seat.hold)
  seat_keeps = filled_kept is_end seat.rows width seat.rights right seat.hold seat.counts kept_counts off_counts has once counted handed old

  pub seat_goes : HasFilled is_end (rows_of width seat) off_counts (split_off right seat.hold)
  seat_goes = filled_off is_end seat.rows width seat.rights right seat.hold seat.counts kept_counts off_counts has once counted handed old

-- what seats know of a row, beside what its holder put
module _ {T : Type 0} (is_end : T → Bool) (width : ℕ) (board : RowBoardView) (holder : RowSeatView T) (row : ℕ)
    (holds : HoldsRow is_end width board holder row) where
  -- by the board's own numbers
  values_by : (seat : RowSeatView T) (hold : Hold T) (n : ℕ) → IsSeatOf board seat
      → row_values (rows_of width seat) hold row n ≡ row_values (rows_in_turn board.rows width board.rights) hold row n
  values_by seat hold n is = λ i. row_values (rows_in_turn (is.same_rows i) width (is.same_rights i)) hold row n

  abbrev rows : Rows
  rows = rows_in_turn board.rows width board.rights

  abbrev puts : ℕ → ℕ
  puts other = used (count_of holder.counts other)

  holder_rows : HasFilled is_end rows holder.counts holder.hold
  holder_rows = subst (λ n. HasFilled is_end (rows_in_turn n width board.rights) holder.counts holder.hold) holds.is_seat.same_rows
      (subst (λ n. HasFilled is_end (rows_in_turn holder.rows width n) holder.counts holder.hold) holds.is_seat.same_rights holds.in_rows)

  pub put_ends : EndsByLast is_end (put_values width holder row)
  put_ends = subst (EndsByLast is_end) (sym (values_by holder holder.hold (puts row) holds.is_seat))
      (filled_ends is_end rows holder.counts holder.hold holder_rows row holds.inside)

  module _ (all : Hold T) (knows : KnowsOf board holder all) where
    narrow : puts row ≤ width
    narrow = let low = holder_rows.short row holds.inside in let few = used_few (count_of holder.counts row) in omega arith

    pub all_known : row_values (rows_of width holder) all row (puts row) ≡ put_values width holder row
    all_known = values_by holder all (puts row) holds.is_seat
        ∙ ((row_is_holders rows board.board.owners holds.is_board.laid puts holder.hold all holder_rows.in_rows knows.extends knows.owns knows.lawful
        row holds.inside holds.right narrow).0
        ∙ sym (values_by holder holder.hold (puts row) holds.is_seat))

    pub no_more : (at : ℕ) → at < width → puts row ≤ at → (record_of all.places (row * width + at)).value ≡ None
    no_more = (row_is_holders rows board.board.owners holds.is_board.laid puts holder.hold all holder_rows.in_rows knows.extends knows.owns knows.lawful
        row holds.inside holds.right narrow).1

    pub read_prefix : (reader : RowSeatView T) (n : ℕ) → IsSeatOf board reader → Extends reader.hold all → n ≤ width → KnowsTo width reader row n
        → (n ≤ puts row) × IsPrefix (values width reader row n) (put_values width holder row)
    read_prefix reader n is extends few known =
        let both = known_is_prefix rows board.board.owners holds.is_board.laid puts holder.hold all holder_rows.in_rows knows.extends knows.owns knows.lawful
        row holds.inside holds.right reader.hold n extends few known in (
          both.0,
          (
            both.1.0,
            values_by holder holder.hold (puts row) holds.is_seat
                ∙ (both.1.1 ∙ ap (λ l. l ++ both.1.0) (sym (values_by reader reader.hold n is))),
          ),
        )
