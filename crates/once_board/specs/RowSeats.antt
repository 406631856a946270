-- Boards whose places are rows that may end, and their seats, for the crates above.
use Rattle.std.specs.Prelude.{◌≡◌, ◌≢◌, ℕ, ◌+◌, ◌*◌, ◌%◌, ◌≤◌, ◌<◌, List, [], ◌∷◌, ◌++◌, Bool}
use Rattle.atomic_table.specs.Seated.{TableId}
use Rattle.once_board.specs.declared.counts.RowCount.{RowCount}
use Rattle.once_board.specs.declared.holds.Hold.{Hold}
use Rattle.once_board.specs.Boards.{BoardView}
use Rattle.once_board.specs.Filled.{HasFilled, count_of, used}
use Rattle.once_board.specs.Holds.{Extends, OwnsAll, IsLawful}
use Rattle.once_board.specs.Numbers.{times}
use Rattle.once_board.specs.Rows.{Rows, IsLaid, HasValue, row_values, rows_in_turn}

-- a board of so many rows, whose rights go round
pub record RowBoardView : Type 0 where
  pub board : BoardView
  pub rows : ℕ
  pub rights : ℕ

-- a seat of such a board, and how far it filled each row
pub record RowSeatView (T : Type 0) : Type 0 where
  pub board : TableId
  pub hold : Hold T
  pub rows : ℕ
  pub rights : ℕ
  pub counts : List RowCount

-- the board has these rows of this width, and no more
pub record IsRowBoard (width : ℕ) (board : RowBoardView) : Type 0 where
  pub laid : IsLaid (rows_in_turn board.rows width board.rights) board.board.owners
  pub shared : 0 < board.rights

module _ {T : Type 0} where
  abbrev pub rows_of : ℕ → RowSeatView T → Rows
  rows_of width seat = rows_in_turn seat.rows width seat.rights

  -- a seat of this board
  pub record IsSeatOf (board : RowBoardView) (seat : RowSeatView T) : Type 0 where
    pub same_board : seat.board ≡ board.board.board
    pub same_rows : seat.rows ≡ board.rows
    pub same_rights : seat.rights ≡ board.rights

  -- the seat holds the right of a row, and has a part
  pub record MayPut (seat : RowSeatView T) (row : ℕ) : Type 0 where
    pub inside : row < seat.rows
    pub right : 1 ≤ times (row % seat.rights) seat.hold.rights
    pub part : 1 ≤ seat.hold.parts

  -- the values that the seat knows of a row up to a position
  abbrev pub values : ℕ → RowSeatView T → ℕ → ℕ → List T
  values width seat row n = row_values (rows_of width seat) seat.hold row n

  -- the values that the seat put into a row
  abbrev pub put_values : ℕ → RowSeatView T → ℕ → List T
  put_values width seat row = values width seat row (used (count_of seat.counts row))

  -- the values of each row that the seat put, once one more was put into a row
  pub record PutOne (width row : ℕ) (x : T) (before after : RowSeatView T) : Type 0 where
    pub grown : put_values width after row ≡ put_values width before row ++ x ∷ []
    pub others : (other : ℕ) → other < before.rows → other ≢ row → put_values width after other ≡ put_values width before other

  -- the seat holds the right of a row of this board
  pub record HoldsRow (is_end : T → Bool) (width : ℕ) (board : RowBoardView) (seat : RowSeatView T) (row : ℕ) : Type 0 where
    pub is_board : IsRowBoard width board
    pub is_seat : IsSeatOf board seat
    pub in_rows : HasFilled is_end (rows_of width seat) seat.counts seat.hold
    pub inside : row < board.rows
    pub right : 1 ≤ times (row % board.rights) seat.hold.rights

  -- another seat knows what this one knows, and of the places of its rows no more: so it is once this seat was joined into it
  pub record KnowsOf (board : RowBoardView) (seat : RowSeatView T) (other : Hold T) : Type 0 where
    pub extends : Extends seat.hold other
    pub owns : OwnsAll board.board.owners seat.hold other
    pub lawful : IsLawful other

  -- the seat knows the values of a row below this position
  abbrev pub KnowsTo : ℕ → RowSeatView T → ℕ → ℕ → Type 0
  KnowsTo width seat row n = (at : ℕ) → at < n → HasValue seat.hold (row * width + at)
