-- What the calls of a log make of a seat.
use Rattle.std.specs.Prelude.{ℕ, slice_set}
use Rattle.once_board.specs.Filled.{count_of, one_further}
use Rattle.once_board.specs.Holds.{won, put_at}
use Rattle.once_board.specs.RowSeats as rows
use Rattle.port_log.specs.declared.entries.Entry.{Entry}
use Rattle.port_log.specs.Entries.{is_end}
use Rattle.port_log.specs.Logs.{LogSeatView, row_seat, place_of}

-- the next place of a page's log is claimed and filled
abbrev pub announced : ℕ → Entry → LogSeatView → LogSeatView
announced page entry seat =
    let count = count_of seat.counts page in
    let place = place_of page count.filled in
    record {
      board = seat.board;
      hold = put_at place entry (won place seat.hold);
      pages = seat.pages;
      workers = seat.workers;
      counts = slice_set seat.counts page (one_further (is_end entry) count);
    }

-- the entries that the seat announced of each page, once one more was announced of a page
abbrev pub AnnouncedOne : ℕ → Entry → LogSeatView → LogSeatView → Type 0
AnnouncedOne page entry before after = rows.PutOne 260 page entry (row_seat before) (row_seat after)
