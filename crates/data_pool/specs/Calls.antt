-- What the calls of a pool make of a seat.
use Rattle.std.specs.Prelude.{◌≡◌, ◌≢◌, ℕ, ◌<◌, List, [], ◌∷◌, slice_set, Bool, true, false}
use Rattle.once_board.specs.Filled.{count_of, one_further}
use Rattle.once_board.specs.Holds.{won, put_at}
use Rattle.once_board.specs.RowSeats as rows
use Rattle.data_pool.specs.declared.pool.Append as answer
use Rattle.data_pool.specs.declared.pool.Append.TheVariants as append
use Rattle.data_pool.specs.declared.pieces.Piece.{Piece}
use Rattle.data_pool.specs.declared.pieces.Piece.TheVariants.{Bytes}
use Rattle.data_pool.specs.Pieces.{is_end}
use Rattle.data_pool.specs.Pools.{PoolSeatView, row_seat, place_of}

-- the next place of a file is claimed and filled
abbrev pub filled : ℕ → Piece → PoolSeatView → PoolSeatView
filled file piece seat =
    let count = count_of seat.counts file in
    let place = place_of file count.filled in
    record {
      board = seat.board;
      hold = put_at place piece (won place seat.hold);
      feeders = seat.feeders;
      counts = slice_set seat.counts file (one_further (is_end piece) count);
    }

-- bytes are put at the end of a file, but no empty piece is
abbrev pub appended : ℕ → List ℕ → PoolSeatView → PoolSeatView
appended file [] seat = seat
appended file (byte ∷ bytes) seat = filled file (Bytes (byte ∷ bytes)) seat

-- what appending bytes to a file makes of a seat, by its answer
abbrev pub Appends : ℕ → List ℕ → PoolSeatView → PoolSeatView → answer.Append → Type 0
Appends file bytes before after append.Ok =
    ((count_of before.counts file).ended ≡ false) × ((count_of before.counts file).filled < 2_048) × (after ≡ appended file bytes before)
Appends file bytes before after (append.Full back) =
    ((count_of before.counts file).ended ≡ false) × ((count_of before.counts file).filled ≡ 2_048) × (after ≡ before) × (back.items ≡ bytes)
Appends file bytes before after (append.Ended back) =
    ((count_of before.counts file).ended ≡ true) × (after ≡ before) × (back.items ≡ bytes)
Appends file bytes before after (append.OutOfMemory back) =
    ((count_of before.counts file).ended ≡ false) × ((count_of before.counts file).filled < 2_048) × (bytes ≢ []) × (after ≡ before)
    × (back.items ≡ bytes)

-- what ending a file makes of a seat, by its answer
abbrev pub Ends : ℕ → Piece → PoolSeatView → PoolSeatView → Bool → Type 0
Ends file how before after true = ((count_of before.counts file).ended ≡ false) × (after ≡ filled file how before)
Ends file how before after false = ((count_of before.counts file).ended ≡ true) × (after ≡ before)

-- the pieces that the seat put of each file, once one more was put of a file
abbrev pub PutOne : ℕ → Piece → PoolSeatView → PoolSeatView → Type 0
PutOne file piece before after = rows.PutOne 2_049 file piece (row_seat before) (row_seat after)

-- the pieces of each file, once bytes were appended to a file or weren't
abbrev pub PutsBytes : ℕ → List ℕ → PoolSeatView → PoolSeatView → answer.Append → Type 0
PutsBytes file bytes before after append.Ok = bytes ≢ [] → PutOne file (Bytes bytes) before after
PutsBytes file bytes before after (append.Full back) = Unit {0}
PutsBytes file bytes before after (append.Ended back) = Unit {0}
PutsBytes file bytes before after (append.OutOfMemory back) = Unit {0}
