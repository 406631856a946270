-- Rows that may end, for the crates above: a value may end its row, and after it comes no other. How far a seat has filled each.
use Rattle.std.specs.Prelude.{◌≡◌, ℕ, suc, ◌+◌, ◌%◌, ◌==◌, ◌<◌, nat_lt, List, length, Bool, true, false, if◌then◌else◌, Option, Some, None, slice_index_or}
use Rattle.once_board.specs.declared.counts.RowCount.{RowCount}
use Rattle.once_board.specs.declared.holds.Hold.{Hold}
use Rattle.once_board.specs.Numbers.{times}
use Rattle.once_board.specs.Places.{record_of}
use Rattle.once_board.specs.Rows.{Rows, InRows, place_in}

-- of a row that has nothing
abbrev pub none_filled : RowCount
none_filled = record { filled = 0; ended = false }

-- how many places of a row are filled
abbrev pub used : RowCount → ℕ
used count = count.filled + (if count.ended then 1 else 0)

-- after one more value, by whether it ends the row
abbrev pub one_further : Bool → RowCount → RowCount
one_further true count = record { filled = count.filled; ended = true }
one_further false count = record { filled = count.filled + 1; ended = count.ended }

-- the count of a row
abbrev pub count_of : List RowCount → ℕ → RowCount
count_of counts row = slice_index_or counts row none_filled

-- the count that has more places filled
abbrev pub most_filled : RowCount → RowCount → RowCount
most_filled count other = if nat_lt (used count) (used other) then other else count

-- it is the right that is given
abbrev pub is_given : Option ℕ → ℕ → Bool
is_given None right = false
is_given (Some given) right = right == given

-- the counts of rows, whose rights go round, once a right is given away or none: its rows' counts go with it
pub record HandedOver (right : Option ℕ) (rights : ℕ) (old kept off : List RowCount) : Type 0 where
  pub same_length : length kept ≡ length old
  pub length_off : length off ≡ length old
  pub each_kept : (row : ℕ) → row < length old → count_of kept row ≡ (if is_given right (row % rights) then none_filled else count_of old row)
  pub each_off : (row : ℕ) → row < length old → count_of off row ≡ (if is_given right (row % rights) then count_of old row else none_filled)

-- the counts of two seats, once they are joined
pub record BroughtTogether (counts others after : List RowCount) : Type 0 where
  pub same_length : length after ≡ length counts
  pub each : (row : ℕ) → row < length counts → count_of after row ≡ most_filled (count_of counts row) (count_of others row)

module _ {T : Type 0} where
  -- what may stand at a place of rows of a width: at the last position of a row, a value that ends it
  abbrev pub EndsFullRow : (T → Bool) → ℕ → ℕ → T → Type 0
  EndsFullRow is_end width place x = suc (place % width) ≡ width → is_end x ≡ true

  -- a seat and the rows that it filled: their values, and that where it lacks the right of a row it filled nothing of it
  pub record HasFilled (is_end : T → Bool) (rows : Rows) (counts : List RowCount) (h : Hold T) : Type 0 where
    pub in_rows : InRows rows (λ row. used (count_of counts row)) h
    pub short : (row : ℕ) → row < rows.count → (count_of counts row).filled < rows.width
    pub goes_on : (row at : ℕ) (x : T) → row < rows.count → at < (count_of counts row).filled
        → (record_of h.places (place_in rows row at)).value ≡ Some x → is_end x ≡ false
    pub ends : (row : ℕ) (x : T) → row < rows.count → (count_of counts row).ended ≡ true
        → (record_of h.places (place_in rows row (count_of counts row).filled)).value ≡ Some x → is_end x ≡ true
    pub alone : (row : ℕ) → row < rows.count → times (rows.right_of row) h.rights ≡ 0 → count_of counts row ≡ none_filled

  -- of these values of a row only the last may end it
  abbrev pub EndsByLast : (T → Bool) → List T → Type 0
  EndsByLast is_end xs = (at : ℕ) (other : T) → suc at < length xs → is_end (slice_index_or xs at other) ≡ false
