-- Pieces as files: the bytes that came of a file, and what is known of its end.
use Rattle.std.specs.Prelude.{ℕ, suc, List, [], ◌∷◌, ◌++◌}
use Rattle.djvu_base.specs.Library.{Mark, Open, Whole, Broken, File, Library}
use Rattle.data_pool.specs.declared.pieces.Piece.{Piece}
use Rattle.data_pool.specs.declared.pieces.Piece.TheVariants as piece

-- the bytes of pieces, up to an end
abbrev pub bytes_of : List Piece → List ℕ
bytes_of [] = []
bytes_of (piece.Bytes bytes ∷ pieces) = bytes ++ bytes_of pieces
bytes_of (piece.End ∷ pieces) = []
bytes_of (piece.Broken ∷ pieces) = []
bytes_of (piece.NoMemory ∷ pieces) = []

-- what pieces tell of their file's end. Where there was no memory to read on, more bytes might have come
abbrev pub mark_of : List Piece → Mark
mark_of [] = Open
mark_of (piece.Bytes bytes ∷ pieces) = mark_of pieces
mark_of (piece.End ∷ pieces) = Whole
mark_of (piece.Broken ∷ pieces) = Broken
mark_of (piece.NoMemory ∷ pieces) = Open

abbrev pub file_of : List ℕ → List Piece → File
file_of name pieces = record { name = name; bytes = bytes_of pieces; mark = mark_of pieces }

-- the files of these names, the first of which has this number, by the pieces of each
abbrev pub library_from : ℕ → List (List ℕ) → (ℕ → List Piece) → Library
library_from file [] pieces = []
library_from file (name ∷ names) pieces = file_of name (pieces file) ∷ library_from (suc file) names pieces

abbrev pub library_by : List (List ℕ) → (ℕ → List Piece) → Library
library_by names pieces = library_from 0 names pieces
