-- State tables, as lists of rows.
use Rattle.std.specs.Prelude.{ℕ, ◌+◌, ◌*◌, Bool, ◌&&◌, List, [], ◌∷◌, length, nat_lt, nat_le, slice_get, unwrap_or, IsTrue}
use Rattle.std.specs.List.{list_all}
use Rattle.zp_table.specs.declared.rows.Row.{Row}

-- a row of a table of so many rows: p is from 1 to 8000 hexadecimal, and both next states are rows of the table
abbrev pub is_row : ℕ → Row → Bool
is_row count row = nat_lt 0 row.p && nat_le row.p 0x8000 && nat_lt row.up count && nat_lt row.dn count

-- a table has 1 to 256 rows
abbrev pub is_table : List Row → Bool
is_table rows = nat_lt 0 (length rows) && nat_le (length rows) 256 && list_all (is_row (length rows)) rows

abbrev pub IsTable : List Row → Type 0
IsTable rows = IsTrue (is_table rows)

abbrev pub row : ℕ → ℕ → ℕ → ℕ → Row
row p m up dn = record { p = p; m = m; up = up; dn = dn }

-- the row of a state: a context holds a state below the number of rows
abbrev pub row_at : List Row → ℕ → Row
row_at rows state = unwrap_or (slice_get rows state) (row 0x8000 0 0 0)

-- the sum over all rows of the row's number from 1 on times the sum of its fields
abbrev pub weighted_sum : ℕ → List Row → ℕ
weighted_sum number [] = 0
weighted_sum number (r ∷ rows) = number * (r.p + r.m + r.up + r.dn) + weighted_sum (number + 1) rows
