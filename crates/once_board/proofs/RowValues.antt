-- The values of a row, as a list: how it grows, and that what one seat read is a prefix of what another put.
use Rattle.std.proofs.Common.{◌≡◌, ℕ, zero, suc, ◌+◌, ◌<◌, ◌≤◌, refl, sym, ap, ◌∙◌, List, [], ◌∷◌, ◌++◌, append_assoc, option_to_list, arith, add-one}
use Rattle.std.proofs.Common.{Some, None, Option, length, length-append, get_or}
use Rattle.std.proofs.lemmas.List.{append-nil, get_or_append_left, get_or_push}
use mathlib.Core.Logic.{dite}
use native.Mathlib.Decide.{dec_le}
use Rattle.once_board.specs.declared.holds.Hold.{Hold}
use Rattle.once_board.specs.declared.owners.Owner.{Owner}
use Rattle.once_board.specs.Numbers.{times}
use Rattle.once_board.specs.Places.{record_of}
use Rattle.once_board.specs.Holds.{Extends, OwnsAll, IsLawful}
use Rattle.once_board.specs.Rows.{Rows, place_in, IsLaid, IsPrefix, HasValue, row_values, InRows}
use Rattle.once_board.proofs.RowSteps.{rows_of_holder, value_stays}

pub prefix_trans : {A : Type 0} (xs ys zs : List A) → IsPrefix xs ys → IsPrefix ys zs → IsPrefix xs zs
prefix_trans xs ys zs first second = (
  first.0 ++ second.0,
  second.1 ∙ (ap (λ l. l ++ second.0) first.1 ∙ append_assoc xs first.0 second.0),
)

module _ {T : Type 0} (rows : Rows) where
  -- a row whose places below n are all known
  abbrev pub IsKnown : Hold T → ℕ → ℕ → Type 0
  IsKnown h row n = (at : ℕ) → at < n → HasValue h (place_in rows row at)

  -- the row of a seat, up to its count
  pub known_row : (counts : ℕ → ℕ) (h : Hold T) → InRows rows counts h → (row n : ℕ) → row < rows.count → n ≤ counts row → n ≤ rows.width → IsKnown h row n
  known_row counts h old row n r few narrow at below = old.known_below row at r (omega arith) (omega arith)

  -- what was known of a row is what is known of it later
  pub values_stay : (h h' : Hold T) → Extends h h' → (row n : ℕ) → IsKnown h row n → row_values rows h' row n ≡ row_values rows h row n
  values_stay h h' extends row zero known = refl
  values_stay h h' extends row (suc n) known =
      let v = known n (omega arith) in
      let last : (record_of h'.places (place_in rows row n)).value ≡ (record_of h.places (place_in rows row n)).value
      = (extends (place_in rows row n)).same_value v.0 v.1 ∙ sym v.1 in
      (λ i. values_stay h h' extends row n (λ at below. known at (omega arith)) i ++ option_to_list (last i))

  -- a put appends a value, and so does a look that found one: the place at the row's count is known now
  pub values_appended : (h after : Hold T) (row at : ℕ) (x : T) → IsKnown h row at → Extends h after
      → (record_of after.places (place_in rows row at)).value ≡ Some x
      → row_values rows after row (at + 1) ≡ row_values rows h row at ++ x ∷ []
  values_appended h after row at x known extends is =
      let same = values_stay h after extends row at known in
      ap (λ n. row_values rows after row n) (add-one at) ∙ (λ i. same i ++ option_to_list (is i))

  -- the row up to a lower count is a prefix of it
  pub values_prefix : (h : Hold T) (row low high : ℕ) → low ≤ high → IsPrefix (row_values rows h row low) (row_values rows h row high)
  values_prefix h row low zero few =
      let none : low ≡ zero = omega arith in
      ([], sym (append-nil _ ∙ ap (λ n. row_values rows h row n) none))
  values_prefix h row low (suc high) few = dite (dec_le low high)
      (λ lower. prefix_trans (row_values rows h row low) (row_values rows h row high) (row_values rows h row (suc high))
      (values_prefix h row low high lower)
      (option_to_list (record_of h.places (place_in rows row high)).value, refl))
      (λ top. let same : low ≡ suc high = omega arith in ([], sym (append-nil _ ∙ ap (λ n. row_values rows h row n) same)))

-- who holds a row's right, and a seat that knows all that the holder knows, and of the holder's places no more
module _ {T : Type 0} (rows : Rows) (owners : List Owner) (laid : IsLaid rows owners) (puts : ℕ → ℕ) (holder both : Hold T)
    (old_holder : InRows rows puts holder) (knows_holder : Extends holder both) (owns : OwnsAll owners holder both) (lawful : IsLawful both)
    (row : ℕ) (r : row < rows.count) (mine : 1 ≤ times (rows.right_of row) holder.rights) where
  none_unknown : (o : Option T) → ((x : T) → o ≡ Some x → ⊥) → o ≡ None
  none_unknown None h = refl
  none_unknown (Some x) h = absurd (h x refl)

  -- that seat knows the row as the holder does, and nothing after it
  pub row_is_holders : puts row ≤ rows.width → (row_values rows both row (puts row) ≡ row_values rows holder row (puts row))
      × ((at : ℕ) → at < rows.width → puts row ≤ at → (record_of both.places (place_in rows row at)).value ≡ None)
  row_is_holders narrow = (
    values_stay rows holder both knows_holder row (puts row) (known_row rows puts holder old_holder row (puts row) r (omega arith) narrow),
    λ at a from. none_unknown (record_of both.places (place_in rows row at)).value (λ x is.
        let below = rows_of_holder rows owners laid puts holder both old_holder owns lawful row at r a mine (x, is) in
        omega arith),
  )

  -- what a third seat, all of whose knowledge that seat has, knows of the row up to a position is a prefix of what the holder put
  pub known_is_prefix : (reader : Hold T) (n : ℕ) → Extends reader both → n ≤ rows.width → IsKnown rows reader row n
      → (n ≤ puts row) × IsPrefix (row_values rows reader row n) (row_values rows holder row (puts row))
  known_is_prefix reader n knows_reader narrow known =
      let few : n ≤ puts row = dite (dec_le n (puts row)) (λ h. h)
      (λ above. absurd (
      let has = value_stays rows reader both knows_reader (place_in rows row (puts row)) (known (puts row) (omega arith)) in
      let below = rows_of_holder rows owners laid puts holder both old_holder owns lawful row (puts row) r (omega arith) mine has in
      omega arith)) in
      (few, seen_prefix few)
    where
      seen_prefix : n ≤ puts row → IsPrefix (row_values rows reader row n) (row_values rows holder row (puts row))
      seen_prefix few =
          let there = values_stay rows reader both knows_reader row n known in
          let here = values_stay rows holder both knows_holder row n (known_row rows puts holder old_holder row n r few narrow) in
          let more = values_prefix rows holder row n (puts row) few in
          (more.0, more.1 ∙ ap (λ l. l ++ more.0) (sym here ∙ there))

  -- a third seat by its own counts
  pub read_is_prefix : (reads : ℕ → ℕ) (reader : Hold T) → InRows rows reads reader → Extends reader both → reads row ≤ rows.width
      → (reads row ≤ puts row) × IsPrefix (row_values rows reader row (reads row)) (row_values rows holder row (puts row))
  read_is_prefix reads reader old_reader knows_reader narrow = known_is_prefix reader (reads row) knows_reader narrow
      (known_row rows reads reader old_reader row (reads row) r (omega arith) narrow)

-- values of a row one by one
module _ {T : Type 0} (rows : Rows) (h : Hold T) (row : ℕ) where
  pub length-row_values : (n : ℕ) → IsKnown rows h row n → length (row_values rows h row n) ≡ n
  length-row_values zero known = refl
  length-row_values (suc n) known =
      let v = known n (omega arith) in
      let before = length-row_values n (λ at below. known at (omega arith)) in
      let all = length-append (row_values rows h row n) (option_to_list (record_of h.places (place_in rows row n)).value) in
      let one : length (option_to_list (record_of h.places (place_in rows row n)).value) ≡ 1 = ap (λ o. length (option_to_list o)) v.1 in
      omega arith

  pub row_values-at : (n at : ℕ) (x d : T) → IsKnown rows h row n → at < n → (record_of h.places (place_in rows row at)).value ≡ Some x
      → get_or (row_values rows h row n) at d ≡ x
  row_values-at zero at x d known below is = absurd (omega arith)
  row_values-at (suc n) at x d known below is =
      let rest : IsKnown rows h row n = λ a b. known a (omega arith) in
      let long = length-row_values n rest in
      dite (dec_le (suc at) n)
      (λ low. get_or_append_left (row_values rows h row n) (option_to_list (record_of h.places (place_in rows row n)).value) d at (omega arith)
      ∙ row_values-at n at x d rest low is)
      (λ top.
      let same : at ≡ n = omega arith in
      let last : (record_of h.places (place_in rows row n)).value ≡ Some x
      = ap (λ k. (record_of h.places (place_in rows row k)).value) (sym same) ∙ is in
      (λ i. get_or (row_values rows h row n ++ option_to_list (last i)) (same i) d)
      ∙ get_or_push (row_values rows h row n) x d n long)
