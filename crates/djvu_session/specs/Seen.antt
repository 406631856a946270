-- The libraries that passes have: what a decoder's pass has seen, and what the feeders' passes hold.
use Rattle.std.specs.Prelude.{ℕ, List, [], ◌∷◌, ◌++◌, Option}
use Rattle.djvu_base.specs.Library.{Library}
use Rattle.jb2_records.specs.declared.results.FileResult.{FileResult}
use Rattle.once_board.specs.declared.holds.Hold.{Hold}
use Rattle.once_board.specs.Places.{record_of}
use Rattle.data_pool.specs.declared.pieces.Piece.{Piece}
use Rattle.data_pool.specs.Pools.{pieces, put_pieces}
use Rattle.page_decoder.specs.Results.{Result}
use Rattle.page_decoder.specs.Resolving.{result_from}
use Rattle.page_decoder.specs.Given.{Page, Given}
use Rattle.page_decoder.specs.Libraries.{given_in}
use Rattle.djvu_session.specs.Arrived.{library_by}
use Rattle.djvu_session.specs.Passes.{FeederView, DecoderView, read_of, file_at}

-- the pieces of a file that the pass read
abbrev pub pieces_read : DecoderView → ℕ → List Piece
pieces_read pass file = pieces pass.pool file (read_of pass file)

-- the folder as far as the pass read it
abbrev pub seen : DecoderView → Library
seen pass = library_by pass.setup.names (pieces_read pass)

-- the result of a file that a seat of the shelf read or published
abbrev pub result_at : Hold FileResult → ℕ → Option FileResult
result_at h file = (record_of h.places file).value

-- what files are known to give. One whose decoding found no memory gives nothing
abbrev pub results_known : Hold FileResult → ℕ → Option Result
results_known h file = result_from (result_at h file)

-- what the pass has of a page: what it saw, and the results that it knows
abbrev pub given_of : DecoderView → ℕ → Given
given_of pass page = given_in Page pass.setup.table (seen pass) (file_at pass.setup page) (results_known pass.shelf.hold)

-- the pieces that feeders put of a file. One feeder alone has the right of it
abbrev pub fed_pieces : List FeederView → ℕ → List Piece
fed_pieces [] file = []
fed_pieces (feeder ∷ feeders) file = put_pieces feeder.pool file ++ fed_pieces feeders file

-- the folder as far as the feeders put it
abbrev pub held : List (List ℕ) → List FeederView → Library
held names feeders = library_by names (fed_pieces feeders)
