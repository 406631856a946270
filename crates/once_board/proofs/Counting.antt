-- Counts of rows, as they are handed over and brought together row by row.
use Rattle.std.proofs.Common.{◌≡◌, ℕ, ◌%◌, ◌<◌, ◌≤◌, List, length, if◌then◌else◌, Option}
use Rattle.once_board.specs.declared.counts.RowCount.{RowCount}
use Rattle.once_board.specs.Filled.{none_filled, count_of, is_given, most_filled}

-- the rows below this one are handed over
pub record Handing (right : Option ℕ) (rights next : ℕ) (old counts off : List RowCount) : Type 0 where
  pub same_length : length counts ≡ length old
  pub length_off : length off ≡ length old
  pub kept : (row : ℕ) → row < next → count_of counts row ≡ (if is_given right (row % rights) then none_filled else count_of old row)
  pub given : (row : ℕ) → row < next → count_of off row ≡ (if is_given right (row % rights) then count_of old row else none_filled)
  pub kept_so_far : (row : ℕ) → next ≤ row → count_of counts row ≡ count_of old row
  pub nothing_yet : (row : ℕ) → next ≤ row → row < length old → count_of off row ≡ none_filled

-- the rows below this one are brought together
pub record Bringing (next : ℕ) (old others counts : List RowCount) : Type 0 where
  pub same_length : length counts ≡ length old
  pub brought : (row : ℕ) → row < next → count_of counts row ≡ most_filled (count_of old row) (count_of others row)
  pub so_far : (row : ℕ) → next ≤ row → count_of counts row ≡ count_of old row
