-- Tables as bytes: six for each row, p and m with the high byte first, then up and dn.
use Rattle.std.specs.Prelude.{◌≡◌, ℕ, ◌+◌, ◌*◌, ◌/◌, ◌%◌, ◌<◌, true, List, [], ◌∷◌, length, take, flat_map, nat_lt, nat_le, ◌==◌, ◌&&◌, if◌then◌else◌, Option, Some, None, codes}
use Rattle.std.specs.List.{list_all}
use Rattle.zp_table.specs.declared.rows.Row.{Row}
use Rattle.zp_table.specs.declared.faults.TableFault.{TableFault}
use Rattle.zp_table.specs.declared.faults.TableWhy.{TableWhy}
use Rattle.zp_table.specs.declared.faults.TableWhy.TheVariants.{Empty, TooMany, Short, Chance, Up, Down}
use Rattle.zp_table.specs.Rows.{row, row_at, is_row, IsTable}

-- the rows that bytes have; what is left of them after the last whole row is passed over
abbrev pub rows_in : List ℕ → List Row
rows_in (p ∷ p_low ∷ m ∷ m_low ∷ up ∷ dn ∷ bytes) = row (256 * p + p_low) (256 * m + m_low) up dn ∷ rows_in bytes
rows_in bytes = []

abbrev pub bytes_of_row : Row → List ℕ
bytes_of_row r = r.p / 256 ∷ r.p % 256 ∷ r.m / 256 ∷ r.m % 256 ∷ r.up ∷ r.dn ∷ []

abbrev pub bytes_of : List Row → List ℕ
bytes_of rows = flat_map bytes_of_row rows

-- the first check that fails on a row of a table of so many rows
abbrev pub fault_of_row : ℕ → Row → Option TableWhy
fault_of_row count r =
    if nat_lt 0 r.p && nat_le r.p 0x8000
    then if nat_lt r.up count
    then if nat_lt r.dn count then None else Some Down
    else Some Up
    else Some Chance

abbrev pub fault_at : ℕ → TableWhy → TableFault
fault_at number why = record { row = number; why = why }

-- what is wrong with the row of this number, or else what is wrong later
abbrev pub fault_or : ℕ → Option TableWhy → Option TableFault → Option TableFault
fault_or number (Some why) later = Some (fault_at number why)
fault_or number None later = later

-- the first fault of the rows, which are numbered from this number on
abbrev pub first_fault : ℕ → ℕ → List Row → Option TableFault
first_fault count number [] = None
first_fault count number (r ∷ rows) = fault_or number (fault_of_row count r) (first_fault count (number + 1) rows)

-- a length of no whole rows, of none, or of too many
abbrev pub fault_of_length : ℕ → Option TableFault
fault_of_length size =
    if size == 0 then Some (fault_at 0 Empty)
    else if nat_lt 1536 size then Some (fault_at 256 TooMany)
    else if size % 6 == 0 then None
    else Some (fault_at (size / 6) Short)

-- what is wrong with the length, or else with a row
abbrev pub length_fault_or : Option TableFault → Option TableFault → Option TableFault
length_fault_or (Some fault) later = Some fault
length_fault_or None later = later

-- the first check that fails on bytes
abbrev pub fault_of : List ℕ → Option TableFault
fault_of bytes = length_fault_or (fault_of_length (length bytes)) (first_fault (length (rows_in bytes)) 0 (rows_in bytes))

-- the bytes are those of a table's rows
pub record IsWritten (bytes : List ℕ) : Type 0 where
  pub rows : List Row
  pub table : IsTable rows
  pub same : bytes ≡ bytes_of rows

-- the first row that no table of so many rows has is that of the fault
pub record IsFirstBadRow (count : ℕ) (rows : List Row) (fault : TableFault) : Type 0 where
  pub good : list_all (is_row count) (take fault.row rows) ≡ true
  pub there : fault.row < length rows
  pub bad : fault_of_row count (row_at rows fault.row) ≡ Some fault.why

abbrev pub word_of : TableWhy → List ℕ
word_of Empty = codes "empty"
word_of TooMany = codes "too-many"
word_of Short = codes "short"
word_of Chance = codes "chance"
word_of Up = codes "up"
word_of Down = codes "down"
