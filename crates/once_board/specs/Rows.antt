-- Rows of places, for the crates above: each row is private to one right and is filled from its start.
use Rattle.std.specs.Prelude.{◌≡◌, ℕ, zero, suc, ◌+◌, ◌*◌, ◌%◌, ◌==◌, ◌≤◌, ◌<◌, max, List, [], ◌++◌, length, option_to_list, Some, if◌then◌else◌}
use Rattle.once_board.specs.declared.holds.Hold.{Hold}
use Rattle.once_board.specs.declared.owners.Owner.{Owner}
use Rattle.once_board.specs.Numbers.{times}
use Rattle.once_board.specs.Places.{IsPrivate, record_of}

-- so many rows of one width, and the right that each is private to
pub record Rows : Type 0 where
  pub count : ℕ
  pub width : ℕ
  pub right_of : ℕ → ℕ

-- rows whose rights go round: row 0 is private to right 0, the next to right 1, and after the last right comes right 0 again
abbrev pub rows_in_turn : ℕ → ℕ → ℕ → Rows
rows_in_turn count width rights = record { count = count; width = width; right_of = λ row. row % rights }

-- the place of a row at a position
abbrev pub place_in : Rows → ℕ → ℕ → ℕ
place_in rows row at = row * rows.width + at

-- a board whose places are these rows and no more
pub record IsLaid (rows : Rows) (owners : List Owner) : Type 0 where
  pub long : length owners ≡ rows.count * rows.width
  pub each : (row at : ℕ) → row < rows.count → at < rows.width → IsPrivate owners (place_in rows row at) (rows.right_of row)

-- how far each row is filled: one more in one row, and the further of two
abbrev pub one_more : ℕ → (ℕ → ℕ) → ℕ → ℕ
one_more row counts other = if other == row then suc (counts other) else counts other

abbrev pub further : (ℕ → ℕ) → (ℕ → ℕ) → ℕ → ℕ
further counts others row = max (counts row) (others row)

-- a list begins with another
abbrev pub IsPrefix : {A : Type 0} → List A → List A → Type 0
IsPrefix {A} xs ys = (rest : List A) × (ys ≡ xs ++ rest)

module _ {T : Type 0} where
  abbrev pub HasValue : Hold T → ℕ → Type 0
  HasValue h place = (x : T) × ((record_of h.places place).value ≡ Some x)

  -- the values that a seat knows of a row up to a position
  abbrev pub row_values : Rows → Hold T → ℕ → ℕ → List T
  row_values rows h row zero = []
  row_values rows h row (suc at) = row_values rows h row at ++ option_to_list (record_of h.places (place_in rows row at)).value

  -- a seat and its rows: it knows each place below a row's count, and where it holds the row's right it knows that nothing
  -- was claimed from the count on
  pub record InRows (rows : Rows) (counts : ℕ → ℕ) (h : Hold T) : Type 0 where
    pub known_below : (row at : ℕ) → row < rows.count → at < rows.width → at < counts row → HasValue h (place_in rows row at)
    pub empty_from : (row at : ℕ) → row < rows.count → at < rows.width → counts row ≤ at → 1 ≤ times (rows.right_of row) h.rights
        → (record_of h.places (place_in rows row at)).word ≡ 0
