-- Seats of the worked values, at a board of numbers.
use Rattle.std.specs.Prelude.{ℕ, [], ◌∷◌, Option}
use Rattle.once_board.specs.declared.holds.Known.{Known}
use Rattle.once_board.specs.declared.holds.Hold.{Hold}
use Rattle.once_board.specs.Places.{record_of}

-- a seat with the rights 4, 5 and 6 and two parts, which knows nothing
abbrev pub fresh : Hold ℕ
fresh = record { rights = 4 ∷ 5 ∷ 6 ∷ []; parts = 2; claims = []; puts = []; places = [] }

abbrev pub record_at : ℕ → Hold ℕ → Known ℕ
record_at place h = record_of h.places place

abbrev pub known : ℕ → Option ℕ → ℕ → ℕ → Known ℕ
known word value readings last = record { word = word; value = value; readings = readings; last = last }
