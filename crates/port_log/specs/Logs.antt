-- What contracts see of a log and of its seats.
use Rattle.std.specs.Prelude.{◌≡◌, ℕ, ◌+◌, ◌*◌, ◌≤◌, ◌<◌, List, length}
use Rattle.atomic_table.specs.Seated.{TableId}
use Rattle.once_board.specs.declared.counts.RowCount.{RowCount}
use Rattle.once_board.specs.declared.holds.Hold.{Hold}
use Rattle.once_board.specs.Boards.{BoardView}
use Rattle.once_board.specs.Filled.{HasFilled}
use Rattle.once_board.specs.RowSeats as rows
use Rattle.port_log.specs.declared.entries.Entry.{Entry}
use Rattle.port_log.specs.Entries.{is_end}

pub record LogView : Type 0 where
  pub board : BoardView
  pub pages : ℕ
  pub workers : ℕ

-- a seat: what it holds and knows, and of each page how many notices it announced and whether its end
pub record LogSeatView : Type 0 where
  pub board : TableId
  pub hold : Hold Entry
  pub pages : ℕ
  pub workers : ℕ
  pub counts : List RowCount

-- a row of 260 places for each page, and a right for each worker
abbrev pub row_board : LogView → rows.RowBoardView
row_board log = record { board = log.board; rows = log.pages; rights = log.workers }

abbrev pub row_seat : LogSeatView → rows.RowSeatView Entry
row_seat seat = record { board = seat.board; hold = seat.hold; rows = seat.pages; rights = seat.workers; counts = seat.counts }

-- the place of a page's log at a position
abbrev pub place_of : ℕ → ℕ → ℕ
place_of page at = page * 260 + at

pub record IsLog (log : LogView) : Type 0 where
  pub laid : rows.IsRowBoard 260 (row_board log)
  pub few : log.pages ≤ 8

-- there are eight counts, whatever the pages. The seat knows what it announced, which is all of the pages of its rights, and it
-- announced nothing of other pages
pub record InLog (seat : LogSeatView) : Type 0 where
  pub few : seat.pages ≤ 8
  pub eight : length seat.counts ≡ 8
  pub filled : HasFilled is_end (rows.rows_of 260 (row_seat seat)) seat.counts seat.hold

-- a seat of this log
abbrev pub IsSeatOf : LogView → LogSeatView → Type 0
IsSeatOf log seat = rows.IsSeatOf (row_board log) (row_seat seat)

-- the seat holds the right of a page, and has a part
abbrev pub MayAnnounce : LogSeatView → ℕ → Type 0
MayAnnounce seat page = rows.MayPut (row_seat seat) page

-- the entries that the seat knows of a page's log up to a position
abbrev pub entries : LogSeatView → ℕ → ℕ → List Entry
entries seat page n = rows.values 260 (row_seat seat) page n

-- the entries that the seat announced of a page, its end among them
abbrev pub announced_entries : LogSeatView → ℕ → List Entry
announced_entries seat page = rows.put_values 260 (row_seat seat) page

-- the seat holds the right of a page of this log
abbrev pub Works : LogView → LogSeatView → ℕ → Type 0
Works log seat page = rows.HoldsRow is_end 260 (row_board log) (row_seat seat) page

-- another seat knows what this one knows, and of the places of its pages no more: so it is once this seat was joined into it
abbrev pub KnowsOf : LogView → LogSeatView → Hold Entry → Type 0
KnowsOf log seat other = rows.KnowsOf (row_board log) (row_seat seat) other

-- the seat knows the entries of a page's log below this position
abbrev pub KnowsTo : LogSeatView → ℕ → ℕ → Type 0
KnowsTo seat page n = rows.KnowsTo 260 (row_seat seat) page n
