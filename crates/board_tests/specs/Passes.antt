-- Passes over one row of a board of numbers: some put values into it, and others read it.
use Rattle.std.specs.Prelude.{◌≡◌, ℕ, ◌==◌, ◌≤◌, ◌<◌, List, length, slice_index_or, if◌then◌else◌}
use Rattle.once_board.specs.declared.holds.Hold.{Hold}
use Rattle.once_board.specs.Boards.{BoardView}
use Rattle.once_board.specs.Numbers.{times}
use Rattle.once_board.specs.Rows.{Rows, InRows, IsPrefix, row_values, rows_in_turn}
use Rattle.board_tests.specs.declared.passes.Pass.{Pass}

-- two rows of three places, private to the rights 0 and 1
abbrev pub two_rows : Rows
two_rows = rows_in_turn 2 3 2

abbrev pub hold_of : Pass → Hold ℕ
hold_of pass = pass.seat.hold

-- so many places of the pass's row, and none of another
abbrev pub counts_of : Pass → ℕ → ℕ
counts_of pass row = if row == pass.row then pass.known else 0

-- a pass over a row of this board, which knows the row up to its count
pub record IsPass (board : BoardView) (pass : Pass) : Type 0 where
  pub same_board : pass.seat.board ≡ board.board
  pub inside : pass.row < 2
  pub narrow : pass.known ≤ 3
  pub in_rows : InRows two_rows (counts_of pass) (hold_of pass)

-- a seat that knows nothing of any row
abbrev pub IsNew : Hold ℕ → Type 0
IsNew h = InRows two_rows (λ row. 0) h

-- the values of its row that a pass put or read
abbrev pub values_of : Pass → List ℕ
values_of pass = row_values two_rows (hold_of pass) pass.row pass.known

-- what each pass knows of a row is a prefix of what the pass put that holds the row's right
abbrev pub ReadsPrefixes : List Pass → Type 0
ReadsPrefixes passes = (i j : ℕ) (d : Pass) → i < length passes → j < length passes → (slice_index_or passes i d).row ≡ (slice_index_or passes j d).row
    → 1 ≤ times (two_rows.right_of (slice_index_or passes j d).row) (hold_of (slice_index_or passes j d)).rights
    → IsPrefix (values_of (slice_index_or passes i d)) (values_of (slice_index_or passes j d))
