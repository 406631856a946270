-- What each call of a board does to rows that a seat filled and that may have ended.
use Rattle.std.proofs.Common.{◌≡◌, ◌≢◌, ℕ, zero, suc, ◌+◌, ◌%◌, ◌*◌, ◌<◌, ◌≤◌, ◌==◌, max, List, length, replicate, Bool, true, false}
use Rattle.std.proofs.Common.{if◌then◌else◌, Option, Some, None, refl, sym, ap, subst, ◌∙◌, arith, ◌⊎◌, inl, inr, ⊎_elim, eq-eqb, ne_eqb}
use Rattle.std.proofs.Common.{lt-ltb, le-ltb}
use Rattle.std.proofs.lemmas.Nat.{mod-mul-add}
use mathlib.Core.Logic.{dite}
use native.Mathlib.Decide.{ℕ_discrete, dec_lt}
use Rattle.once_board.specs.declared.counts.RowCount.{RowCount}
use Rattle.once_board.specs.declared.holds.Known.{Known}
use Rattle.once_board.specs.declared.holds.Hold.{Hold}
use Rattle.once_board.specs.declared.owners.Owner.{Owner}
use Rattle.once_board.specs.Numbers.{times, given}
use Rattle.once_board.specs.Places.{record_of}
use Rattle.once_board.specs.Boards.{IsFirst}
use Rattle.once_board.specs.Holds.{won, put_at, split_kept, split_off, Extends, OwnsAll}
use Rattle.once_board.specs.Rows.{Rows, place_in, rows_in_turn, IsLaid, one_more, further, HasValue, InRows}
use Rattle.once_board.specs.Filled.{none_filled, used, one_further, count_of, most_filled, is_given, HandedOver, HasFilled, EndsFullRow}
use Rattle.once_board.proofs.Records.{record_of-unread}
use Rattle.once_board.proofs.SplitStep.{kept_given}
use Rattle.once_board.proofs.RowSteps.{rows_first, rows_put, rows_kept, rows_off, rows_same, rows_fewer, rows_stay, rows_join}

-- counts alone

abbrev one_if : Bool → ℕ
one_if b = if b then 1 else 0

pub count_of-replicate : (n row : ℕ) → count_of (replicate n none_filled) row ≡ none_filled
count_of-replicate zero row = refl
count_of-replicate (suc n) zero = refl
count_of-replicate (suc n) (suc row) = count_of-replicate n row

pub used_further : (ends : Bool) (count : RowCount) → count.ended ≡ false → used (one_further ends count) ≡ suc (used count)
used_further true count unended = let none : one_if count.ended ≡ 0 = ap one_if unended in omega arith
used_further false count unended = omega arith

pub used_unended : (count : RowCount) → count.ended ≡ false → used count ≡ count.filled
used_unended count unended = let none : one_if count.ended ≡ 0 = ap one_if unended in omega arith

pub used_ended : (count : RowCount) → count.ended ≡ true → used count ≡ suc count.filled
used_ended count ended = let one : one_if count.ended ≡ 1 = ap one_if ended in omega arith

pub used_few : (count : RowCount) → used count ≤ suc count.filled
used_few count = one_few count.ended
  where
    one_few : (b : Bool) → count.filled + one_if b ≤ suc count.filled
    one_few true = omega arith
    one_few false = omega arith

filled_used : (count : RowCount) → count.filled ≤ used count
filled_used count = omega arith

-- the count that has more is one of the two
pub most_is : (count other : RowCount)
    → ((most_filled count other ≡ count) × (used other ≤ used count)) ⊎ ((most_filled count other ≡ other) × (used count ≤ used other))
most_is count other = dite (dec_lt (used count) (used other))
    (λ less. inr (ap (λ b. if b then other else count) (lt-ltb (used count) (used other) less), omega arith))
    (λ more. inl (ap (λ b. if b then other else count) (le-ltb (used count) (used other) (omega arith)), omega arith))

used_most : (count other : RowCount) → used (most_filled count other) ≡ max (used count) (used other)
used_most count other = ⊎_elim
    (λ first. let is : used (most_filled count other) ≡ used count = ap used first.0 in let least = first.1 in omega arith)
    (λ second. let is : used (most_filled count other) ≡ used other = ap used second.0 in let least = second.1 in omega arith)
    (most_is count other)

-- how often a right stands among those that are given
given_times : (right : Option ℕ) (r : ℕ)
    → ((is_given right r ≡ true) × (times r (given right) ≡ 1)) ⊎ ((is_given right r ≡ false) × (times r (given right) ≡ 0))
given_times None r = inr (refl, refl)
given_times (Some x) r = dite (ℕ_discrete r x)
    (λ same. inl (eq-eqb r x same, (let one : one_if (x == r) ≡ 1 = ap one_if (eq-eqb x r (sym same)) in omega arith)))
    (λ ne. inr (ne_eqb r x ne, (let none : one_if (x == r) ≡ 0 = ap one_if (ne_eqb x r (λ e. ne (sym e))) in omega arith)))

module _ {T : Type 0} where
  end_or_not : (is_end : T → Bool) (x : T) (b : Bool) → is_end x ≡ b → (is_end x ≡ false → ⊥) → is_end x ≡ true
  end_or_not is_end x true is not = is
  end_or_not is_end x false is not = absurd (not is)

  -- the next value of a row may stand there, where a place is left after one that doesn't end the row
  pub fits_next : (is_end : T → Bool) (width row at : ℕ) (x : T) → at < width → (is_end x ≡ false → suc at < width)
      → EndsFullRow is_end width (row * width + at) x
  fits_next is_end width row at x below room last = end_or_not is_end x (is_end x) refl (λ is.
      let more = room is in
      let here = mod-mul-add row width at below in
      omega arith)

  -- a value that is known now of a place whose value was known
  value_was : (h after : Hold T) → Extends h after → (place : ℕ) (y : T) → HasValue h place → (record_of after.places place).value ≡ Some y
      → (record_of h.places place).value ≡ Some y
  value_was h after extends place y has is = has.1 ∙ (sym ((extends place).same_value has.0 has.1) ∙ is)

module _ {T : Type 0} (is_end : T → Bool) (rows : Rows) where
  -- the first seat
  pub filled_first : (counts : List RowCount) (h : Hold T) → IsFirst h → 0 < rows.width → ((row : ℕ) → count_of counts row ≡ none_filled)
      → HasFilled is_end rows counts h
  filled_first counts h is wide none = record {
    in_rows = rows_same rows (λ row. 0) (λ row. used (count_of counts row)) h (λ row r. ap used (none row)) (rows_first rows h is);
    short = λ row r. let zero : (count_of counts row).filled ≡ 0 = ap (λ (c : RowCount). c.filled) (none row) in omega arith;
    goes_on = λ row at x r below. absurd (let zero : (count_of counts row).filled ≡ 0 = ap (λ (c : RowCount). c.filled) (none row) in omega arith);
    ends = λ row x r ended. absurd (let unended : (count_of counts row).ended ≡ false = ap (λ (c : RowCount). c.ended) (none row) in cc);
    alone = λ row r not_mine. none row;
  }

  -- a place that a row has filled
  pub known_filled : (counts : List RowCount) (h : Hold T) → HasFilled is_end rows counts h → (row at : ℕ) → row < rows.count
      → at < (count_of counts row).filled → HasValue h (place_in rows row at)
  known_filled counts h old row at r below =
      let room = old.short row r in
      old.in_rows.known_below row at r (omega arith) (let more = filled_used (count_of counts row) in omega arith)

  pub known_end : (counts : List RowCount) (h : Hold T) → HasFilled is_end rows counts h → (row : ℕ) → row < rows.count
      → (count_of counts row).ended ≡ true → HasValue h (place_in rows row (count_of counts row).filled)
  known_end counts h old row r ended =
      let room = old.short row r in
      old.in_rows.known_below row (count_of counts row).filled r room (let one = used_ended (count_of counts row) ended in omega arith)

  -- nothing is lost, and no right is gained or lost: a look, or a telling
  pub filled_stay : (owners : List Owner) (counts : List RowCount) (h after : Hold T) → IsLaid rows owners → Extends h after → OwnsAll owners h after
      → ((right : ℕ) → times right after.rights ≡ times right h.rights) → HasFilled is_end rows counts h → HasFilled is_end rows counts after
  filled_stay owners counts h after laid extends owns rights old = record {
    in_rows = rows_stay rows owners laid (λ row. used (count_of counts row)) h after extends owns
        (λ right mine. let same = rights right in omega arith) old.in_rows;
    short = old.short;
    goes_on = λ row at x r below is. old.goes_on row at x r below
        (value_was h after extends (place_in rows row at) x (known_filled counts h old row at r below) is);
    ends = λ row x r ended is. old.ends row x r ended
        (value_was h after extends (place_in rows row (count_of counts row).filled) x (known_end counts h old row r ended) is);
    alone = λ row r not_mine. old.alone row r (let same = rights (rows.right_of row) in omega arith);
  }

  -- one row gets a value at its end
  module _ (owners : List Owner) (counts after_counts : List RowCount) (row : ℕ) (x : T) (h after : Hold T) (laid : IsLaid rows owners)
      (old : HasFilled is_end rows counts h) (r : row < rows.count) (unended : (count_of counts row).ended ≡ false)
      (room : is_end x ≡ false → suc (count_of counts row).filled < rows.width)
      (now : after ≡ put_at (place_in rows row (count_of counts row).filled) x (won (place_in rows row (count_of counts row).filled) h))
      (extends : Extends h after) (has : (record_of after.places (place_in rows row (count_of counts row).filled)).value ≡ Some x)
      (here : count_of after_counts row ≡ one_further (is_end x) (count_of counts row))
      (elsewhere : (other : ℕ) → other ≢ row → count_of after_counts other ≡ count_of counts other) where
    put_rows : InRows rows (λ other. used (count_of after_counts other)) after
    put_rows =
        let same = used_unended (count_of counts row) unended in
        rows_same rows (one_more row (λ other. used (count_of counts other))) (λ other. used (count_of after_counts other)) after
        (λ other k. dite (ℕ_discrete other row)
        (λ e.
        let height : one_more row (λ z. used (count_of counts z)) other ≡ suc (used (count_of counts other)) = rw (eq-eqb other row e) in
        let one : used (count_of counts other) ≡ used (count_of counts row) = ap (λ z. used (count_of counts z)) e in
        let two : used (count_of after_counts other) ≡ used (count_of after_counts row) = ap (λ z. used (count_of after_counts z)) e in
        let three : used (count_of after_counts row) ≡ suc (used (count_of counts row))
        = ap used here ∙ used_further (is_end x) (count_of counts row) unended in
        omega arith)
        (λ ne.
        let height : one_more row (λ z. used (count_of counts z)) other ≡ used (count_of counts other) = rw (ne_eqb other row ne) in
        let one : used (count_of after_counts other) ≡ used (count_of counts other) = ap used (elsewhere other ne) in
        omega arith))
        (subst (InRows rows (one_more row (λ other. used (count_of counts other)))) (sym now)
        (rows_put rows (λ other. used (count_of counts other)) row (count_of counts row).filled x h (sym same) old.in_rows r (old.short row r)))

    -- what is said of another row stays
    put_else : (other : ℕ) → other ≢ row → (P : RowCount → Type 0) → P (count_of counts other) → P (count_of after_counts other)
    put_else other ne P holds = subst P (sym (elsewhere other ne)) holds

    -- the row goes on, or it has ended
    put_goes_on : (ends : Bool) → is_end x ≡ ends → (at : ℕ) (y : T) → at < (one_further ends (count_of counts row)).filled
        → (record_of after.places (place_in rows row at)).value ≡ Some y → is_end y ≡ false
    put_goes_on true is at y below holds = old.goes_on row at y r below
        (value_was h after extends (place_in rows row at) y (known_filled counts h old row at r below) holds)
    put_goes_on false is at y below holds = dite (dec_lt at (count_of counts row).filled)
        (λ low. old.goes_on row at y r low (value_was h after extends (place_in rows row at) y (known_filled counts h old row at r low) holds))
        (λ top.
        let same : at ≡ (count_of counts row).filled = omega arith in
        let there : (record_of after.places (place_in rows row at)).value ≡ Some x
        = ap (λ n. (record_of after.places (place_in rows row n)).value) same ∙ has in
        let one : y ≡ x = cc in
        ap is_end one ∙ is)

    put_ends : (ends : Bool) → is_end x ≡ ends → (y : T) → (one_further ends (count_of counts row)).ended ≡ true
        → (record_of after.places (place_in rows row (one_further ends (count_of counts row)).filled)).value ≡ Some y → is_end y ≡ true
    put_ends true is y ended holds = let one : y ≡ x = cc in ap is_end one ∙ is
    put_ends false is y ended holds = absurd (let no_end : true ≡ false = sym ended ∙ unended in cc)

    put_short : (ends : Bool) → is_end x ≡ ends → (one_further ends (count_of counts row)).filled < rows.width
    put_short true is = old.short row r
    put_short false is = let low = room is in omega arith

    pub filled_put : 1 ≤ times (rows.right_of row) h.rights → HasFilled is_end rows after_counts after
    filled_put mine = record {
      in_rows = put_rows;
      short = λ other k. dite (ℕ_discrete other row)
          (λ e. subst (λ (c : RowCount). c.filled < rows.width) (sym (ap (count_of after_counts) e ∙ here)) (put_short (is_end x) refl))
          (λ ne. put_else other ne (λ (c : RowCount). c.filled < rows.width) (old.short other k));
      goes_on = λ other at y k below holds. dite (ℕ_discrete other row)
          (λ e. put_goes_on (is_end x) refl at y
          (subst (λ (c : RowCount). at < c.filled) (ap (count_of after_counts) e ∙ here) below)
          (ap (λ n. (record_of after.places (place_in rows n at)).value) (sym e) ∙ holds))
          (λ ne.
          let low : at < (count_of counts other).filled = subst (λ (c : RowCount). at < c.filled) (elsewhere other ne) below in
          old.goes_on other at y k low (value_was h after extends (place_in rows other at) y (known_filled counts h old other at k low) holds));
      ends = λ other y k ended holds. dite (ℕ_discrete other row)
          (λ e.
          let now_count : count_of after_counts other ≡ one_further (is_end x) (count_of counts row) = ap (count_of after_counts) e ∙ here in
          put_ends (is_end x) refl y (ap (λ (c : RowCount). c.ended) (sym now_count) ∙ ended)
          ((λ i. (record_of after.places (place_in rows (sym e i) (sym now_count i).filled)).value) ∙ holds))
          (λ ne.
          let was_ended : (count_of counts other).ended ≡ true = ap (λ (c : RowCount). c.ended) (sym (elsewhere other ne)) ∙ ended in
          old.ends other y k was_ended
          (value_was h after extends (place_in rows other (count_of counts other).filled) y (known_end counts h old other k was_ended)
          (ap (λ (c : RowCount). (record_of after.places (place_in rows other c.filled)).value) (sym (elsewhere other ne)) ∙ holds)));
      alone = λ other k not_mine. dite (ℕ_discrete other row)
          (λ e. absurd (
          let rights : times (rows.right_of other) after.rights ≡ times (rows.right_of row) h.rights
          = (λ i. times (rows.right_of (e i)) (now i).rights) in
          omega arith))
          (λ ne. elsewhere other ne ∙ old.alone other k (ap (λ (z : Hold T). times (rows.right_of other) z.rights) (sym now) ∙ not_mine));
    }

  -- two seats are joined
  module _ (owners : List Owner) (counts others after_counts : List RowCount) (h other after : Hold T) (laid : IsLaid rows owners)
      (extends : Extends h after) (extends_other : Extends other after) (owns : OwnsAll owners h after) (owns_other : OwnsAll owners other after)
      (rights : (right : ℕ) → times right after.rights ≡ times right h.rights + times right other.rights)
      (old : HasFilled is_end rows counts h) (old_other : HasFilled is_end rows others other)
      (each : (row : ℕ) → row < rows.count → count_of after_counts row ≡ most_filled (count_of counts row) (count_of others row)) where
    -- what holds of the counts of both holds of that of the joined
    most_of : (row : ℕ) → row < rows.count → (P : RowCount → Type 0) → P (count_of counts row) → P (count_of others row) → P (count_of after_counts row)
    most_of row r P first second = subst P (sym (each row r)) (⊎_elim
        (λ is. subst P (sym is.0) first)
        (λ is. subst P (sym is.0) second)
        (most_is (count_of counts row) (count_of others row)))

    pub filled_join : HasFilled is_end rows after_counts after
    filled_join = record {
      in_rows = rows_same rows (further (λ row. used (count_of counts row)) (λ row. used (count_of others row)))
          (λ row. used (count_of after_counts row)) after
          (λ row r. ap used (each row r) ∙ used_most (count_of counts row) (count_of others row))
          (rows_join rows owners laid (λ row. used (count_of counts row)) (λ row. used (count_of others row)) h other after extends extends_other
          owns owns_other rights old.in_rows old_other.in_rows);
      short = λ row r. most_of row r (λ (c : RowCount). c.filled < rows.width) (old.short row r) (old_other.short row r);
      goes_on = λ row at y r below holds. most_of row r
          (λ (c : RowCount). at < c.filled → is_end y ≡ false)
          (λ low. old.goes_on row at y r low (value_was h after extends (place_in rows row at) y (known_filled counts h old row at r low) holds))
          (λ low. old_other.goes_on row at y r low
          (value_was other after extends_other (place_in rows row at) y (known_filled others other old_other row at r low) holds)) below;
      ends = λ row y r ended holds. most_of row r
          (λ (c : RowCount). c.ended ≡ true → (record_of after.places (place_in rows row c.filled)).value ≡ Some y → is_end y ≡ true)
          (λ is there. old.ends row y r is
          (value_was h after extends (place_in rows row (count_of counts row).filled) y (known_end counts h old row r is) there))
          (λ is there. old_other.ends row y r is
          (value_was other after extends_other (place_in rows row (count_of others row).filled) y (known_end others other old_other row r is) there))
          ended holds;
      alone = λ row r not_mine.
          let sum = rights (rows.right_of row) in
          most_of row r (λ c. c ≡ none_filled) (old.alone row r (omega arith)) (old_other.alone row r (omega arith));
    }

-- a seat is split off, with the rows of a right or none
module _ {T : Type 0} (is_end : T → Bool) (count width rights : ℕ) (right : Option ℕ) (h : Hold T) (counts kept_counts off_counts : List RowCount)
    (has : (x : ℕ) → right ≡ Some x → 1 ≤ times x h.rights) (once : (x : ℕ) → times x h.rights ≤ 1) (long : count ≤ length counts)
    (handed : HandedOver right rights counts kept_counts off_counts) (old : HasFilled is_end (rows_in_turn count width rights) counts h) where
  abbrev rows : Rows
  rows = rows_in_turn count width rights

  -- a row's count stays, or it goes with its right
  split_cases : (row : ℕ) → row < count
      → ((count_of kept_counts row ≡ none_filled) × (count_of off_counts row ≡ count_of counts row)
      × (times (row % rights) (split_kept right h).rights ≡ 0) × (times (row % rights) (split_off right h).rights ≡ 1))
      ⊎ ((count_of kept_counts row ≡ count_of counts row) × (count_of off_counts row ≡ none_filled)
      × (times (row % rights) (split_kept right h).rights ≡ times (row % rights) h.rights) × (times (row % rights) (split_off right h).rights ≡ 0))
  split_cases row r =
      let stays = handed.each_kept row (omega arith) in
      let goes = handed.each_off row (omega arith) in
      let sum = kept_given right h.rights has (row % rights) in
      let most = once (row % rights) in
      ⊎_elim
      (λ is. inl (
        stays ∙ ap (λ b. if b then none_filled else count_of counts row) is.0,
        goes ∙ ap (λ b. if b then count_of counts row else none_filled) is.0,
        (let one = is.1 in omega arith),
        is.1,
      ))
      (λ is. inr (
        stays ∙ ap (λ b. if b then none_filled else count_of counts row) is.0,
        goes ∙ ap (λ b. if b then count_of counts row else none_filled) is.0,
        (let none = is.1 in omega arith),
        is.1,
      ))
      (given_times right (row % rights))

  -- what holds of a row's count and of none holds of both
  kept_of : (row : ℕ) → row < count → (P : RowCount → Type 0) → P none_filled → P (count_of counts row) → P (count_of kept_counts row)
  kept_of row r P none stays = ⊎_elim (λ is. subst P (sym is.0) none) (λ is. subst P (sym is.0) stays) (split_cases row r)

  off_of : (row : ℕ) → row < count → (P : RowCount → Type 0) → P none_filled → P (count_of counts row) → P (count_of off_counts row)
  off_of row r P none goes = ⊎_elim (λ is. subst P (sym is.1) goes) (λ is. subst P (sym is.1) none) (split_cases row r)

  pub filled_kept : HasFilled is_end rows kept_counts (split_kept right h)
  filled_kept = record {
    in_rows = rows_fewer rows (λ row. used (count_of counts row)) (λ row. used (count_of kept_counts row)) (split_kept right h)
        (λ row r. kept_of row r (λ c. used c ≤ used (count_of counts row)) (omega arith) (omega arith))
        (λ row r mine. ⊎_elim (λ is. absurd (let none = is.2 in omega arith)) (λ is. ap used is.0) (split_cases row r))
        (rows_kept rows (λ row. used (count_of counts row)) right h has old.in_rows);
    short = λ row r. kept_of row r (λ (c : RowCount). c.filled < width) (let low = old.short row r in omega arith) (old.short row r);
    goes_on = λ row at y r below holds. kept_of row r (λ (c : RowCount). at < c.filled → is_end y ≡ false)
        (λ low. absurd (omega arith)) (λ low. old.goes_on row at y r low holds) below;
    ends = λ row y r ended holds. kept_of row r
        (λ (c : RowCount). c.ended ≡ true → (record_of h.places (place_in rows row c.filled)).value ≡ Some y → is_end y ≡ true)
        (λ is there. absurd (let no_end : false ≡ true = is in cc)) (λ is there. old.ends row y r is there) ended holds;
    alone = λ row r not_mine. ⊎_elim (λ is. is.0) (λ is. is.0 ∙ old.alone row r (let same = is.2 in omega arith)) (split_cases row r);
  }

  -- what a seat that is split off knows of a place
  off_value : (place : ℕ) → (record_of (split_off right h).places place).value ≡ (record_of h.places place).value
  off_value place = ap (λ (k : Known T). k.value) (record_of-unread h.places place)

  pub filled_off : HasFilled is_end rows off_counts (split_off right h)
  filled_off = record {
    in_rows = rows_fewer rows (λ row. used (count_of counts row)) (λ row. used (count_of off_counts row)) (split_off right h)
        (λ row r. off_of row r (λ c. used c ≤ used (count_of counts row)) (omega arith) (omega arith))
        (λ row r mine. ⊎_elim (λ is. ap used is.1) (λ is. absurd (let none = is.3 in omega arith)) (split_cases row r))
        (rows_off rows (λ row. used (count_of counts row)) right h has old.in_rows);
    short = λ row r. off_of row r (λ (c : RowCount). c.filled < width) (let low = old.short row r in omega arith) (old.short row r);
    goes_on = λ row at y r below holds. off_of row r (λ (c : RowCount). at < c.filled → is_end y ≡ false)
        (λ low. absurd (omega arith)) (λ low. old.goes_on row at y r low (sym (off_value (place_in rows row at)) ∙ holds)) below;
    ends = λ row y r ended holds. off_of row r
        (λ (c : RowCount). c.ended ≡ true → (record_of h.places (place_in rows row c.filled)).value ≡ Some y → is_end y ≡ true)
        (λ is there. absurd (let no_end : false ≡ true = is in cc)) (λ is there. old.ends row y r is there) ended
        (⊎_elim
        (λ is. sym (off_value (place_in rows row (count_of off_counts row).filled)) ∙ holds)
        (λ is. sym (off_value (place_in rows row (count_of off_counts row).filled)) ∙ holds)
        (split_cases row r));
    alone = λ row r not_mine. ⊎_elim (λ is. absurd (let one = is.3 in omega arith)) (λ is. is.1) (split_cases row r);
  }
