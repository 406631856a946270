-- The values of rows that may end.
use Rattle.std.proofs.Common.{◌≡◌, ℕ, ◌+◌, ◌<◌, ◌≤◌, List, [], ◌∷◌, ◌++◌, length, length-append, get_or, Bool, false, ap, sym, ◌∙◌, arith, Some}
use Rattle.std.proofs.lemmas.List.{get_or_append_left}
use Rattle.once_board.specs.declared.counts.RowCount.{RowCount}
use Rattle.once_board.specs.declared.holds.Hold.{Hold}
use Rattle.once_board.specs.Holds.{Extends}
use Rattle.once_board.specs.Places.{record_of}
use Rattle.once_board.specs.Rows.{Rows, IsPrefix, place_in, row_values}
use Rattle.once_board.specs.Filled.{used, count_of, one_further, HasFilled, EndsByLast}
use Rattle.once_board.proofs.FilledRows.{used_few, used_further, used_unended}
use Rattle.once_board.proofs.RowValues.{IsKnown, known_row, length-row_values, row_values-at, values_appended, values_stay}

module _ {T : Type 0} (is_end : T → Bool) where
  -- a prefix has no other ends
  pub ends_prefix : (xs ys : List T) → IsPrefix xs ys → EndsByLast is_end ys → EndsByLast is_end xs
  ends_prefix xs ys prefix ends at d below =
      let long : length ys ≡ length (xs ++ prefix.0) = ap length prefix.1 in
      let all = length-append xs prefix.0 in
      let same : get_or ys at d ≡ get_or xs at d = ap (λ l. get_or l at d) prefix.1 ∙ get_or_append_left xs prefix.0 d at (omega arith) in
      ap is_end (sym same) ∙ ends at d (omega arith)

  module _ (rows : Rows) (counts : List RowCount) (h : Hold T) (old : HasFilled is_end rows counts h) (row : ℕ) (r : row < rows.count) where
    used_narrow : used (count_of counts row) ≤ rows.width
    used_narrow = let low = old.short row r in let few = used_few (count_of counts row) in omega arith

    pub filled_known : IsKnown rows h row (used (count_of counts row))
    filled_known = known_row rows (λ other. used (count_of counts other)) h old.in_rows row (used (count_of counts row)) r (omega arith) used_narrow

    -- the values of a row that a seat filled
    pub filled_ends : EndsByLast is_end (row_values rows h row (used (count_of counts row)))
    filled_ends at d below =
        let long = length-row_values rows h row (used (count_of counts row)) filled_known in
        let few = used_few (count_of counts row) in
        let low : at < (count_of counts row).filled = omega arith in
        let v = filled_known at (omega arith) in
        ap is_end (row_values-at rows h row (used (count_of counts row)) at v.0 d filled_known (omega arith) v.1) ∙ old.goes_on row at v.0 r low v.1

    -- once a value was put at the row's end, and where none was put
    module _ (after_counts : List RowCount) (after : Hold T) (extends : Extends h after) where
      pub values_put : (x : T) → (count_of counts row).ended ≡ false
          → (record_of after.places (place_in rows row (count_of counts row).filled)).value ≡ Some x
          → count_of after_counts row ≡ one_further (is_end x) (count_of counts row)
          → row_values rows after row (used (count_of after_counts row)) ≡ row_values rows h row (used (count_of counts row)) ++ x ∷ []
      values_put x unended has here =
          let more : used (count_of after_counts row) ≡ used (count_of counts row) + 1
          = ap used here ∙ (let one = used_further (is_end x) (count_of counts row) unended in omega arith) in
          let there : (record_of after.places (place_in rows row (used (count_of counts row)))).value ≡ Some x
          = ap (λ n. (record_of after.places (place_in rows row n)).value) (used_unended (count_of counts row) unended) ∙ has in
          ap (row_values rows after row) more
          ∙ values_appended rows h after row (used (count_of counts row)) x filled_known extends there

      pub values_kept : count_of after_counts row ≡ count_of counts row
          → row_values rows after row (used (count_of after_counts row)) ≡ row_values rows h row (used (count_of counts row))
      values_kept here = ap (λ c. row_values rows after row (used c)) here
          ∙ values_stay rows h after extends row (used (count_of counts row)) filled_known
