-- What each call of a board does to rows of places.
use Rattle.std.proofs.Common.{◌≡◌, ◌≢◌, ℕ, zero, suc, ◌+◌, ◌*◌, ◌<◌, ◌≤◌, eq-eqb, ne_eqb, ⊎_elim, inr, List, length, sym, refl, ap, subst, ◌∙◌}
use Rattle.std.proofs.Common.{arith, Option, Some}
use Rattle.std.proofs.lemmas.Nat.{same_from_place, mul-add-lt}
use Rattle.std.proofs.Math.Nat.{mul_comm}
use mathlib.Core.Logic.{dite}
use native.Mathlib.Decide.{ℕ_discrete, dec_le}
use Rattle.once_board.specs.declared.holds.Known.{Known}
use Rattle.once_board.specs.declared.holds.Hold.{Hold}
use Rattle.once_board.specs.declared.owners.Owner.{Owner}
use Rattle.once_board.specs.Numbers.{times}
use Rattle.once_board.specs.Places.{record_of, noted, claimed, opened}
use Rattle.once_board.specs.Holds.{won, put_at, split_kept, split_off, MayClaim, Extends, OwnsAll, IsLawful}
use Rattle.once_board.specs.Boards.{IsFirst}
use Rattle.once_board.specs.Rows.{Rows, place_in, IsLaid, one_more, further, HasValue, InRows}
use Rattle.once_board.proofs.Records.{noted_here, noted_else, record_of-unread}
use Rattle.once_board.proofs.SplitStep.{kept_given}
use Rattle.once_board.proofs.JoinStep.{max_from, sum_from}

-- places at different positions differ
pub other_place : (rows : Rows) (row at row' at' : ℕ) → at < rows.width → at' < rows.width → place_in rows row at ≡ place_in rows row' at'
    → (row ≡ row') × (at ≡ at')
other_place rows row at row' at' h h' e = same_from_place row at row' at' rows.width h h' e

-- a place of a row is a place of the board
pub place_inside : (rows : Rows) (owners : List Owner) → IsLaid rows owners → (row at : ℕ) → row < rows.count → at < rows.width
    → place_in rows row at < length owners
place_inside rows owners laid row at r a =
    let long = laid.long in
    let place = mul-add-lt row rows.width at rows.count r a in
    let turned : rows.width * rows.count ≡ rows.count * rows.width = mul_comm rows.width rows.count in
    omega arith

zero_stays : (n m : ℕ) → n ≡ 0 → (1 ≤ m → 1 ≤ n) → m ≡ 0
zero_stays n zero z h = refl
zero_stays n (suc m) z h = absurd (let o = h (omega arith) in omega arith)

-- positions below and from a count that went up by one in one row
still_below : (counts : ℕ → ℕ) (row other at : ℕ) → at < one_more row counts other → ((other ≡ row) × (at ≡ counts row) → ⊥) → at < counts other
still_below counts row other at below apart = dite (ℕ_discrete other row)
    (λ same.
    let height : one_more row counts other ≡ suc (counts other) = rw (eq-eqb other row same) in
    dite (dec_le (suc at) (counts other)) (λ low. low)
    (λ top. absurd (apart (same, (let c : counts other ≡ counts row = ap counts same in omega arith)))))
    (λ ne. let height : one_more row counts other ≡ counts other = rw (ne_eqb other row ne) in omega arith)

still_from : (counts : ℕ → ℕ) (row other at : ℕ) → one_more row counts other ≤ at → counts other ≤ at
still_from counts row other at from = dite (ℕ_discrete other row)
    (λ same. let height : one_more row counts other ≡ suc (counts other) = rw (eq-eqb other row same) in omega arith)
    (λ ne. let height : one_more row counts other ≡ counts other = rw (ne_eqb other row ne) in omega arith)

passed : (counts : ℕ → ℕ) (row other at : ℕ) → one_more row counts other ≤ at → (other ≡ row) × (at ≡ counts row) → ⊥
passed counts row other at from is =
    let height : one_more row counts other ≡ suc (counts other) = rw (eq-eqb other row is.0) in
    let c : counts other ≡ counts row = ap counts is.0 in
    let a : at ≡ counts row = is.1 in
    omega arith

module _ {T : Type 0} (rows : Rows) where
  -- the first seat
  pub rows_first : (h : Hold T) → IsFirst h → InRows rows (λ row. 0) h
  rows_first h is = record {
    known_below = λ row at r a below. absurd (omega arith);
    empty_from = λ row at r a from mine. ap (λ (k : Known T). k.word) (is.nothing_known (place_in rows row at));
  }

  pub value_stays : (h h' : Hold T) → Extends h h' → (place : ℕ) → HasValue h place → HasValue h' place
  value_stays h h' extends place has = (has.0, (extends place).same_value has.0 has.1)

  -- the value at a row's count is known
  pub rows_read : (counts : ℕ → ℕ) (row at : ℕ) (h : Hold T) → at ≡ counts row → InRows rows counts h → HasValue h (place_in rows row at)
      → InRows rows (one_more row counts) h
  rows_read counts row place h here old has = record {
    known_below = λ other at r a below. dite (ℕ_discrete other row)
        (λ same.
        let height : one_more row counts other ≡ suc (counts other) = rw (eq-eqb other row same) in
        dite (dec_le (suc at) (counts other))
        (λ low. old.known_below other at r a low)
        (λ top.
        let is : at ≡ place = (let c : counts other ≡ counts row = ap counts same in omega arith) in
        subst (λ z. HasValue h z) (λ i. place_in rows (sym same i) (sym is i)) has))
        (λ ne.
        let height : one_more row counts other ≡ counts other = rw (ne_eqb other row ne) in
        old.known_below other at r a (omega arith));
    empty_from = λ other at r a from mine. old.empty_from other at r a
        (dite (ℕ_discrete other row)
        (λ same. let height : one_more row counts other ≡ suc (counts other) = rw (eq-eqb other row same) in omega arith)
        (λ ne. let height : one_more row counts other ≡ counts other = rw (ne_eqb other row ne) in omega arith))
        mine;
  }

  -- one more row is known where nothing but that place changed
  rows_grown : (counts : ℕ → ℕ) (row : ℕ) (h after : Hold T) → InRows rows counts h → row < rows.count → counts row < rows.width
      → ((right : ℕ) → 1 ≤ times right after.rights → 1 ≤ times right h.rights)
      → ((q : ℕ) → q ≢ place_in rows row (counts row) → record_of after.places q ≡ record_of h.places q) → HasValue after (place_in rows row (counts row))
      → InRows rows (one_more row counts) after
  rows_grown counts row h after old r room rights elsewhere has = record {
    known_below = λ other at k a below. dite (ℕ_discrete (place_in rows other at) (place_in rows row (counts row)))
        (λ same. subst (λ z. HasValue after z) (sym same) has)
        (λ ne. let v = old.known_below other at k a (still_below counts row other at below (λ is. ne (λ i. place_in rows (is.0 i) (is.1 i)))) in
        (v.0, ap (λ (z : Known T). z.value) (elsewhere (place_in rows other at) ne) ∙ v.1));
    empty_from = λ other at k a from mine.
        let ne : place_in rows other at ≢ place_in rows row (counts row) = λ same.
        let is = other_place rows other at row (counts row) a room same in
        passed counts row other at from is in
        ap (λ (z : Known T). z.word) (elsewhere (place_in rows other at) ne)
        ∙ old.empty_from other at k a (still_from counts row other at from) (rights (rows.right_of other) mine);
  }

  -- the place at the row's count was won and put: the row has one more
  pub rows_put : (counts : ℕ → ℕ) (row at : ℕ) (x : T) (h : Hold T) → at ≡ counts row → InRows rows counts h → row < rows.count → at < rows.width
      → InRows rows (one_more row counts) (put_at (place_in rows row at) x (won (place_in rows row at) h))
  rows_put counts row at x h here old r room =
      subst (λ n. InRows rows (one_more row counts) (put_at (place_in rows row n) x (won (place_in rows row n) h))) (sym here) (put_there (omega arith))
    where
      put_there : counts row < rows.width
          → InRows rows (one_more row counts) (put_at (place_in rows row (counts row)) x (won (place_in rows row (counts row)) h))
      put_there low =
          let p : ℕ = place_in rows row (counts row) in
          let first : Known T = claimed (record_of h.places p) in
          let claimed_places : List (Known T) = noted h.places p first in
          let known : Known T = opened x (record_of claimed_places p) in
          let after : Hold T = put_at p x (won p h) in
          let stands : record_of after.places p ≡ known = noted_here claimed_places p known in
          let has : HasValue after p = (x, ap (λ (k : Known T). k.value) stands) in
          let elsewhere : (q : ℕ) → q ≢ p → record_of after.places q ≡ record_of h.places q
          = λ q ne. noted_else claimed_places p q known ne ∙ noted_else h.places p q first ne in
          rows_grown counts row h after old r low (λ right mine. mine) elsewhere has

  -- a seat is split off
  pub rows_kept : (counts : ℕ → ℕ) (right : Option ℕ) (h : Hold T) → ((x : ℕ) → right ≡ Some x → 1 ≤ times x h.rights) → InRows rows counts h
      → InRows rows counts (split_kept right h)
  rows_kept counts right h has old = record {
    known_below = old.known_below;
    empty_from = λ row at r a from mine. old.empty_from row at r a from (let both = kept_given right h.rights has (rows.right_of row) in omega arith);
  }

  pub rows_off : (counts : ℕ → ℕ) (right : Option ℕ) (h : Hold T) → ((x : ℕ) → right ≡ Some x → 1 ≤ times x h.rights) → InRows rows counts h
      → InRows rows counts (split_off right h)
  rows_off counts right h has old = record {
    known_below = λ row at r a below.
        let v = old.known_below row at r a below in
        (v.0, ap (λ (k : Known T). k.value) (record_of-unread h.places (place_in rows row at)) ∙ v.1);
    empty_from = λ row at r a from mine.
        ap (λ (k : Known T). k.word) (record_of-unread h.places (place_in rows row at))
        ∙ old.empty_from row at r a from (let both = kept_given right h.rights has (rows.right_of row) in omega arith);
  }

  -- counts that are lower where the right isn't held, as a split leaves them
  pub rows_fewer : (counts others : ℕ → ℕ) (h : Hold T) → ((row : ℕ) → row < rows.count → others row ≤ counts row)
      → ((row : ℕ) → row < rows.count → 1 ≤ times (rows.right_of row) h.rights → others row ≡ counts row) → InRows rows counts h → InRows rows others h
  rows_fewer counts others h fewer same old = record {
    known_below = λ row at r a below. old.known_below row at r a (let few = fewer row r in omega arith);
    empty_from = λ row at r a from mine. old.empty_from row at r a (let is = same row r mine in omega arith) mine;
  }

  -- counts that are the same for each row
  pub rows_same : (counts others : ℕ → ℕ) (h : Hold T) → ((row : ℕ) → row < rows.count → others row ≡ counts row) → InRows rows counts h → InRows rows others h
  rows_same counts others h same old = rows_fewer counts others h (λ row r. let is = same row r in omega arith) (λ row r mine. same row r) old

module _ {T : Type 0} (rows : Rows) (owners : List Owner) (laid : IsLaid rows owners) where
  -- a look, or a join as far as this seat is concerned: nothing is lost, and no right is gained
  pub rows_stay : (counts : ℕ → ℕ) (h h' : Hold T) → Extends h h' → OwnsAll owners h h'
      → ((right : ℕ) → 1 ≤ times right h'.rights → 1 ≤ times right h.rights) → InRows rows counts h → InRows rows counts h'
  rows_stay counts h h' extends owns rights old = record {
    known_below = λ row at r a below. value_stays rows h h' extends (place_in rows row at) (old.known_below row at r a below);
    empty_from = λ row at r a from mine.
        let had = rights (rows.right_of row) mine in
        zero_stays (record_of h.places (place_in rows row at)).word (record_of h'.places (place_in rows row at)).word (old.empty_from row at r a from had)
        (λ seen. owns (place_in rows row at) (rows.right_of row) (laid.each row at r a) had seen);
  }

  -- the place at a row's count may be claimed by who holds the row's right
  pub rows_may_claim : (counts : ℕ → ℕ) (row at : ℕ) (h : Hold T) → at ≡ counts row → InRows rows counts h → row < rows.count → at < rows.width
      → 1 ≤ times (rows.right_of row) h.rights → MayClaim owners (place_in rows row at) h
  rows_may_claim counts row at h here old r room mine = inr (rows.right_of row, laid.each row at r room, mine, old.empty_from row at r room (omega arith) mine)

  -- two seats are joined
  pub rows_join : (counts others : ℕ → ℕ) (h other after : Hold T) → Extends h after → Extends other after → OwnsAll owners h after → OwnsAll owners other after
      → ((right : ℕ) → times right after.rights ≡ times right h.rights + times right other.rights) → InRows rows counts h → InRows rows others other
      → InRows rows (further counts others) after
  rows_join counts others h other after extends extends_other owns owns_other rights old old_other = record {
    known_below = λ row at r a below. ⊎_elim
        (λ first. value_stays rows h after extends (place_in rows row at) (old.known_below row at r a first))
        (λ second. value_stays rows other after extends_other (place_in rows row at) (old_other.known_below row at r a second))
        (max_from (suc at) (counts row) (others row) below);
    empty_from = λ row at r a from mine.
        let place : ℕ = place_in rows row at in
        let sum = rights (rows.right_of row) in
        ⊎_elim
        (λ first. zero_stays (record_of h.places place).word (record_of after.places place).word (old.empty_from row at r a (omega arith) first)
        (λ seen. owns place (rows.right_of row) (laid.each row at r a) first seen))
        (λ second. zero_stays (record_of other.places place).word (record_of after.places place).word (old_other.empty_from row at r a (omega arith) second)
        (λ seen. owns_other place (rows.right_of row) (laid.each row at r a) second seen))
        (sum_from (times (rows.right_of row) h.rights) (times (rows.right_of row) other.rights) (omega arith));
  }

  -- a seat is told what another knows
  pub rows_told : (counts others : ℕ → ℕ) (h other after : Hold T) → Extends h after → Extends other after → OwnsAll owners h after
      → ((right : ℕ) → times right after.rights ≡ times right h.rights) → InRows rows counts h → InRows rows others other → InRows rows
      (further counts others) after
  rows_told counts others h other after extends extends_other owns rights old old_other = record {
    known_below = λ row at r a below. ⊎_elim
        (λ first. value_stays rows h after extends (place_in rows row at) (old.known_below row at r a first))
        (λ second. value_stays rows other after extends_other (place_in rows row at) (old_other.known_below row at r a second))
        (max_from (suc at) (counts row) (others row) below);
    empty_from = λ row at r a from mine.
        let place : ℕ = place_in rows row at in
        let same = rights (rows.right_of row) in
        let had : 1 ≤ times (rows.right_of row) h.rights = omega arith in
        zero_stays (record_of h.places place).word (record_of after.places place).word (old.empty_from row at r a (omega arith) had)
        (λ seen. owns place (rows.right_of row) (laid.each row at r a) had seen);
  }

  -- who holds a row's right knows all that anyone does: a value that another seat knows stands below its count
  pub rows_of_holder : (counts : ℕ → ℕ) (h other : Hold T) → InRows rows counts h → OwnsAll owners h other → IsLawful other
      → (row at : ℕ) → row < rows.count → at < rows.width → 1 ≤ times (rows.right_of row) h.rights → HasValue other (place_in rows row at) → at < counts row
  rows_of_holder counts h other old owns lawful row at r a mine has = dite (dec_le (suc at) (counts row)) (λ below. below)
      (λ above. absurd (
      let place : ℕ = place_in rows row at in
      let empty : (record_of h.places place).word ≡ 0 = old.empty_from row at r a (omega arith) mine in
      let two : 2 ≤ (record_of other.places place).word = lawful place has.0 has.1 in
      let seen : 1 ≤ (record_of h.places place).word = owns place (rows.right_of row) (laid.each row at r a) mine (omega arith) in
      omega arith))
