-- Rows in bytes, and their faults.
use Rattle.std.proofs.Common.{◌≡◌, ◌≤◌, ◌<◌, ◌++◌, ◌∷◌, ◌+◌, ◌*◌, ◌-◌, ◌/◌, ◌%◌, ℕ, List, [], length, refl, take, drop, arith, true}
use Rattle.std.specs.Prelude.{Option, Some, None, slice_index}
use Rattle.std.specs.List.{list_all}
use Rattle.std.proofs.lemmas.Grind.{common_steps}
use Rattle.zp_table.specs.declared.rows.Row.{Row}
use Rattle.zp_table.specs.declared.faults.TableFault.{TableFault}
use Rattle.zp_table.specs.declared.faults.TableWhy.{TableWhy}
use Rattle.zp_table.specs.Rows.{row, is_row, IsTable}
use Rattle.zp_table.specs.Reading.{rows_in, bytes_of, fault_of_row, fault_or, first_fault}

-- six bytes are one row, with p and m as numbers of two bytes each
pub rows_in-six : (bytes more : List ℕ) (p m : ℕ) → length bytes ≡ 6 →
    p ≡ slice_index bytes 0 * 256 + (slice_index bytes 1 * 1 + 0) →
    m ≡ slice_index (take (length bytes - 2) (drop 2 bytes)) 0 * 256 + (slice_index (take (length bytes - 2) (drop 2 bytes)) 1 * 1 + 0) →
    rows_in (bytes ++ more) ≡ row p m (slice_index bytes 4) (slice_index bytes 5) ∷ rows_in more
rows_in-six [] more p m e ep em = absurd (omega arith)
rows_in-six (a ∷ []) more p m e ep em = absurd (omega arith)
rows_in-six (a ∷ b ∷ []) more p m e ep em = absurd (omega arith)
rows_in-six (a ∷ b ∷ c ∷ []) more p m e ep em = absurd (omega arith)
rows_in-six (a ∷ b ∷ c ∷ d ∷ []) more p m e ep em = absurd (omega arith)
rows_in-six (a ∷ b ∷ c ∷ d ∷ f ∷ []) more p m e ep em = absurd (omega arith)
rows_in-six (a ∷ b ∷ c ∷ d ∷ f ∷ g ∷ []) more p m e ep em =
    let high : 256 * a + b ≡ p = omega arith in
    let low : 256 * c + d ≡ m = omega arith in
    cc
rows_in-six (a ∷ b ∷ c ∷ d ∷ f ∷ g ∷ h ∷ t) more p m e ep em = absurd (omega arith)

-- a row without a fault is a row of the table
pub is_row-from_no_fault : (count : ℕ) (r : Row) → fault_of_row count r ≡ None → is_row count r ≡ true
is_row-from_no_fault count r e = grind (arith, common_steps)

none_both : (number : ℕ) (why : Option TableWhy) (later : Option TableFault) → fault_or number why later ≡ None → (why ≡ None) × (later ≡ None)
none_both number (Some why) later e = cc
none_both number None later e = (refl, e)

pub list_all-from_no_fault : (count number : ℕ) (rows : List Row) → first_fault count number rows ≡ None → list_all (is_row count) rows ≡ true
list_all-from_no_fault count number [] e = refl
list_all-from_no_fault count number (r ∷ rows) e =
    let both = none_both number (fault_of_row count r) (first_fault count (number + 1) rows) e in
    grind (arith, is_row-from_no_fault count r both.0, list_all-from_no_fault count (number + 1) rows both.1)

-- rows without a fault, 1 to 256 of them, are a table
pub IsTable-from_no_fault : (rows : List Row) → 0 < length rows → length rows ≤ 256 → first_fault (length rows) 0 rows ≡ None → IsTable rows
IsTable-from_no_fault rows some most e = grind (arith, common_steps, list_all-from_no_fault (length rows) 0 rows e)

-- what bytes of a table's rows are

row_same : (r : Row) (p m : ℕ) → p ≡ r.p → m ≡ r.m → row p m r.up r.dn ≡ r
row_same r p m high low = rw (high, low) refl

row_back : (r : Row) → row (256 * (r.p / 256) + r.p % 256) (256 * (r.m / 256) + r.m % 256) r.up r.dn ≡ r
row_back r = row_same r _ _ (omega arith) (omega arith)

-- rows are read back from their bytes
pub rows_in-bytes_of : (rows : List Row) → rows_in (bytes_of rows) ≡ rows
rows_in-bytes_of [] = refl
rows_in-bytes_of (r ∷ rows) =
    let first = row_back r in
    let later = rows_in-bytes_of rows in
    cc

-- six bytes for each row
pub length-bytes_of : (rows : List Row) → length (bytes_of rows) ≡ 6 * length rows
length-bytes_of [] = refl
length-bytes_of (r ∷ rows) = let later = length-bytes_of rows in omega arith
