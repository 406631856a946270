-- Which bytes are read as tables.
use Rattle.std.proofs.Common.{◌≡◌, ◌≤◌, ◌<◌, ◌∷◌, ◌+◌, ◌*◌, ◌/◌, ◌%◌, ℕ, List, [], length, refl, sym, inl, inr, arith, true, take, zero, suc}
use Rattle.std.specs.Prelude.{Option, Some, None, All, ◌⊎◌}
use Rattle.std.specs.List.{list_all, AllByRecursion}
use Rattle.std.proofs.lemmas.List.Elements.{recursion_from_All}
use Rattle.std.proofs.lemmas.Grind.{common_steps}
use Rattle.zp_table.specs.declared.rows.Row.{Row}
use Rattle.zp_table.specs.declared.faults.TableFault.{TableFault}
use Rattle.zp_table.specs.declared.faults.TableWhy.{TableWhy}
use Rattle.zp_table.specs.Rows.{row_at, is_row, IsTable}
use Rattle.zp_table.specs.Reading.{rows_in, bytes_of, fault_of_row, fault_or, fault_at, first_fault, fault_of, fault_of_length, IsWritten, IsFirstBadRow}
use Rattle.zp_table.proofs.RowLemmas.{rows_in-bytes_of, length-bytes_of, is_row-from_no_fault, IsTable-from_no_fault}

-- bytes of whole rows are those of the rows that they have
pub bytes_of-rows_in : (bytes : List ℕ) → AllByRecursion (λ byte. byte < 256) bytes → length bytes % 6 ≡ 0 → bytes_of (rows_in bytes) ≡ bytes
bytes_of-rows_in [] all e = refl
bytes_of-rows_in (a ∷ []) all e = absurd (omega arith)
bytes_of-rows_in (a ∷ b ∷ []) all e = absurd (omega arith)
bytes_of-rows_in (a ∷ b ∷ c ∷ []) all e = absurd (omega arith)
bytes_of-rows_in (a ∷ b ∷ c ∷ d ∷ []) all e = absurd (omega arith)
bytes_of-rows_in (a ∷ b ∷ c ∷ d ∷ f ∷ []) all e = absurd (omega arith)
bytes_of-rows_in (a ∷ b ∷ c ∷ d ∷ f ∷ g ∷ bytes) all e =
    let later = bytes_of-rows_in bytes all.1.1.1.1.1.1 (omega arith) in
    let low_p : b < 256 = all.1.0 in
    let low_m : d < 256 = all.1.1.1.0 in
    let p_high : (256 * a + b) / 256 ≡ a = omega arith in
    let p_low : (256 * a + b) % 256 ≡ b = omega arith in
    let m_high : (256 * c + d) / 256 ≡ c = omega arith in
    let m_low : (256 * c + d) % 256 ≡ d = omega arith in
    cc

no_fault-from_list_all : (count number : ℕ) (rows : List Row) → list_all (is_row count) rows ≡ true → first_fault count number rows ≡ None
no_fault-from_list_all count number [] e = refl
no_fault-from_list_all count number (r ∷ rows) e = grind (arith, common_steps, no_fault-from_list_all count (number + 1) rows)

-- bytes without a fault have whole rows, 1 to 256 of them
record NoFault (bytes : List ℕ) : Type 0 where
  some : 0 < length bytes
  most : length bytes ≤ 1536
  whole : length bytes % 6 ≡ 0
  rows : first_fault (length (rows_in bytes)) 0 (rows_in bytes) ≡ None

no_fault : (bytes : List ℕ) → fault_of bytes ≡ None → NoFault bytes
no_fault bytes e = record {
  some = grind (arith, common_steps);
  most = grind (arith, common_steps);
  whole = grind (arith, common_steps);
  rows = grind (arith, common_steps);
}

-- bytes that are accepted are those of a table's rows
pub written : (bytes : List ℕ) → All (λ byte. byte < 256) bytes → fault_of bytes ≡ None → IsWritten bytes
written bytes all e =
    let facts = no_fault bytes e in
    let same = bytes_of-rows_in bytes (recursion_from_All (λ byte. byte < 256) bytes all) facts.whole in
    let count : length (bytes_of (rows_in bytes)) ≡ 6 * length (rows_in bytes) = length-bytes_of (rows_in bytes) in
    let whole : length bytes ≡ 6 * length (rows_in bytes) = cc in
    let some : 0 < length (rows_in bytes) = omega (arith, whole, facts.some) in
    let most : length (rows_in bytes) ≤ 256 = omega (arith, whole, facts.most) in
    record { rows = rows_in bytes; table = IsTable-from_no_fault (rows_in bytes) some most facts.rows; same = sym same }

-- what a table is, as facts
record TableFacts (rows : List Row) : Type 0 where
  some : 0 < length rows
  most : length rows ≤ 256
  all : list_all (is_row (length rows)) rows ≡ true

table_facts : (rows : List Row) → IsTable rows → TableFacts rows
table_facts rows t = record {
  some = grind (arith, common_steps);
  most = grind (arith, common_steps);
  all = grind (arith, common_steps);
}

length_without_fault : (size : ℕ) → 0 < size → size ≤ 1536 → size % 6 ≡ 0 → fault_of_length size ≡ None
length_without_fault size some most whole = grind (arith, common_steps)

rows_without_fault : (rows : List Row) → IsTable rows → fault_of (bytes_of rows) ≡ None
rows_without_fault rows t =
    let facts = table_facts rows t in
    let size : length (bytes_of rows) ≡ 6 * length rows = length-bytes_of rows in
    let by_length : fault_of_length (length (bytes_of rows)) ≡ None =
    length_without_fault (length (bytes_of rows)) (omega (arith, size, facts.some)) (omega (arith, size, facts.most)) (omega (arith, size)) in
    let by_rows : first_fault (length rows) 0 rows ≡ None = no_fault-from_list_all (length rows) 0 rows facts.all in
    let same : rows_in (bytes_of rows) ≡ rows = rows_in-bytes_of rows in
    rw (by_length, same) by_rows

-- bytes of a table's rows are accepted
pub accepted : (bytes : List ℕ) → IsWritten bytes → fault_of bytes ≡ None
accepted bytes w = rw w.same (rows_without_fault w.rows w.table)

-- a fault of rows that are numbered from this number on is at the first bad one
record IsBadFrom (count number : ℕ) (rows : List Row) (fault : TableFault) : Type 0 where
  place : ℕ
  row : fault.row ≡ number + place
  good : list_all (is_row count) (take place rows) ≡ true
  there : place < length rows
  bad : fault_of_row count (row_at rows place) ≡ Some fault.why

here_or_later : (number : ℕ) (why : Option TableWhy) (later : Option TableFault) (fault : TableFault) → fault_or number why later ≡ Some fault →
    ((why ≡ Some fault.why) × (fault.row ≡ number)) ⊎ ((why ≡ None) × (later ≡ Some fault))
here_or_later number (Some why) later fault e =
    let same : fault_at number why ≡ fault = cc in
    inl (rw (← same) refl, rw (← same) refl)
here_or_later number None later fault e = inr (refl, e)

bad_by : (count number : ℕ) (r : Row) (rows : List Row) (fault : TableFault) →
    (first_fault count (number + 1) rows ≡ Some fault → IsBadFrom count (number + 1) rows fault) →
    ((fault_of_row count r ≡ Some fault.why) × (fault.row ≡ number)) ⊎ ((fault_of_row count r ≡ None) × (first_fault count (number + 1) rows ≡ Some fault)) →
    IsBadFrom count number (r ∷ rows) fault
bad_by count number r rows fault later (inl here) = record { place = zero; row = omega (arith, here.1); good = refl; there = omega arith; bad = here.0 }
bad_by count number r rows fault later (inr there) =
    let found = later there.1 in
    let fine : is_row count r ≡ true = is_row-from_no_fault count r there.0 in
    record { place = suc found.place; row = omega (arith, found.row); good = grind (arith, common_steps, fine, found.good); there = omega (arith, found.there); bad = found.bad }

bad_from : (count number : ℕ) (rows : List Row) (fault : TableFault) → first_fault count number rows ≡ Some fault → IsBadFrom count number rows fault
bad_from count number [] fault e = absurd (cc)
bad_from count number (r ∷ rows) fault e =
    bad_by count number r rows fault (bad_from count (number + 1) rows fault) (here_or_later number (fault_of_row count r) (first_fault count (number + 1) rows) fault e)

-- the first fault of rows is at the first bad one
pub first_bad : (count : ℕ) (rows : List Row) (fault : TableFault) → first_fault count 0 rows ≡ Some fault → IsFirstBadRow count rows fault
first_bad count rows fault e =
    let found = bad_from count 0 rows fault e in
    let place : fault.row ≡ found.place = omega (arith, found.row) in
    record { good = rw place found.good; there = rw place found.there; bad = rw place found.bad }
