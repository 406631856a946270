-- What contracts see of a pool and of its seats.
use Rattle.std.specs.Prelude.{◌≡◌, ℕ, ◌+◌, ◌*◌, ◌≤◌, ◌<◌, List, length}
use Rattle.atomic_table.specs.Seated.{TableId}
use Rattle.once_board.specs.declared.counts.RowCount.{RowCount}
use Rattle.once_board.specs.declared.holds.Hold.{Hold}
use Rattle.once_board.specs.Boards.{BoardView}
use Rattle.once_board.specs.Filled.{HasFilled}
use Rattle.once_board.specs.RowSeats as rows
use Rattle.data_pool.specs.declared.pieces.Piece.{Piece}
use Rattle.data_pool.specs.Pieces.{is_end}

pub record PoolView : Type 0 where
  pub board : BoardView
  pub files : ℕ
  pub feeders : ℕ

-- a seat: what it holds and knows, and of each file how many pieces it put and whether it ended the file
pub record PoolSeatView : Type 0 where
  pub board : TableId
  pub hold : Hold Piece
  pub feeders : ℕ
  pub counts : List RowCount

-- a row of 2,049 places for each file, and a right for each feeder
abbrev pub row_board : PoolView → rows.RowBoardView
row_board pool = record { board = pool.board; rows = pool.files; rights = pool.feeders }

abbrev pub row_seat : PoolSeatView → rows.RowSeatView Piece
row_seat seat = record { board = seat.board; hold = seat.hold; rows = length seat.counts; rights = seat.feeders; counts = seat.counts }

-- the place of a file at a position
abbrev pub place_of : ℕ → ℕ → ℕ
place_of file at = file * 2_049 + at

pub record IsPool (pool : PoolView) : Type 0 where
  pub laid : rows.IsRowBoard 2_049 (row_board pool)
  pub few : pool.files ≤ 1_024

-- the seat knows what it put, which is all of the files of its rights, and it put nothing of other files
abbrev pub InPool : PoolSeatView → Type 0
InPool seat = HasFilled is_end (rows.rows_of 2_049 (row_seat seat)) seat.counts seat.hold

-- a seat of this pool
abbrev pub IsSeatOf : PoolView → PoolSeatView → Type 0
IsSeatOf pool seat = rows.IsSeatOf (row_board pool) (row_seat seat)

-- the seat holds the right of a file, and has a part
abbrev pub MayFeed : PoolSeatView → ℕ → Type 0
MayFeed seat file = rows.MayPut (row_seat seat) file

-- the pieces that the seat knows of a file up to a position
abbrev pub pieces : PoolSeatView → ℕ → ℕ → List Piece
pieces seat file n = rows.values 2_049 (row_seat seat) file n

-- the pieces that the seat put of a file, its end among them
abbrev pub put_pieces : PoolSeatView → ℕ → List Piece
put_pieces seat file = rows.put_values 2_049 (row_seat seat) file

-- the seat holds the right of a file of this pool
abbrev pub Feeds : PoolView → PoolSeatView → ℕ → Type 0
Feeds pool seat file = rows.HoldsRow is_end 2_049 (row_board pool) (row_seat seat) file

-- another seat knows what this one knows, and of the places of its files no more: so it is once this seat was joined into it
abbrev pub KnowsOf : PoolView → PoolSeatView → Hold Piece → Type 0
KnowsOf pool seat other = rows.KnowsOf (row_board pool) (row_seat seat) other

-- the seat knows the pieces of a file below this position
abbrev pub KnowsTo : PoolSeatView → ℕ → ℕ → Type 0
KnowsTo seat file n = rows.KnowsTo 2_049 (row_seat seat) file n
