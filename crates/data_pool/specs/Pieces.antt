-- Pieces of files: which end their file, and where each may stand.
use Rattle.std.specs.Prelude.{ℕ, Bool, true, false}
use Rattle.data_pool.specs.declared.pieces.Piece.{Piece}
use Rattle.data_pool.specs.declared.pieces.Piece.TheVariants.{Bytes, End, Broken, NoMemory}
use Rattle.once_board.specs.Filled.{EndsFullRow}

-- no piece comes after it
abbrev pub is_end : Piece → Bool
is_end (Bytes bytes) = false
is_end End = true
is_end Broken = true
is_end NoMemory = true

-- a file has 2,049 places, and at the last of them only an end may stand
abbrev pub may_stand : ℕ → Piece → Type 0
may_stand = EndsFullRow is_end 2_049
