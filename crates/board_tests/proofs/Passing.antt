-- Passes over a row, by the lemmas that the board offers.
use Rattle.std.proofs.Common.{◌≡◌, ℕ, ◌+◌, ◌*◌, ◌<◌, List, ◌∷◌, ◌++◌, [], get_or, eq-eqb, ne_eqb, refl, sym, ap, subst, ◌∙◌, arith, All}
use Rattle.std.proofs.Common.{if◌then◌else◌, ◌==◌, Some}
use mathlib.Core.Logic.{dite}
use native.Mathlib.Decide.{ℕ_discrete}
use Rattle.once_board.specs.declared.holds.Hold.{Hold}
use Rattle.once_board.specs.Boards.{BoardView}
use Rattle.once_board.specs.Gathered.{Gathered}
use Rattle.once_board.specs.Holds.{Extends, IsLawful, OwnsAll, put_at, won}
use Rattle.once_board.specs.Numbers.{times}
use Rattle.once_board.specs.Places.{record_of}
use Rattle.once_board.specs.Rows.{InRows, IsLaid, one_more, row_values}
use Rattle.once_board.proofs.Lemmas.{IsKnown, known_row, read_is_prefix, rows_put, rows_read, rows_same, rows_stay, values_appended, values_stay}
use Rattle.board_tests.specs.declared.passes.Pass.{Pass}
use Rattle.board_tests.specs.Passes.{two_rows, hold_of, counts_of, values_of, IsNew, IsPass, ReadsPrefixes}

count_here : (pass : Pass) → pass.known ≡ counts_of pass pass.row
count_here pass = rw (eq-eqb pass.row pass.row refl) refl

-- one pass becomes another, which knows one place more
module _ (pass after : Pass) (row : after.row ≡ pass.row) (known : after.known ≡ pass.known + 1) where
  counts_grown : (other : ℕ) → counts_of after other ≡ one_more pass.row (counts_of pass) other
  counts_grown other = dite (ℕ_discrete other pass.row)
      (λ same.
      let old : counts_of pass other ≡ pass.known = rw (eq-eqb other pass.row same) refl in
      let new : counts_of after other ≡ after.known = rw (eq-eqb other after.row (same ∙ sym row)) refl in
      let more : one_more pass.row (counts_of pass) other ≡ counts_of pass other + 1 = rw (eq-eqb other pass.row same) (omega arith) in
      omega arith)
      (λ ne.
      let old : counts_of pass other ≡ 0 = rw (ne_eqb other pass.row ne) refl in
      let new : counts_of after other ≡ 0 = rw (ne_eqb other after.row (λ e. ne (e ∙ row))) refl in
      let more : one_more pass.row (counts_of pass) other ≡ counts_of pass other = rw (ne_eqb other pass.row ne) refl in
      omega arith)

-- the places that a pass knows
known_places : (board : BoardView) (pass : Pass) → IsPass board pass → IsKnown two_rows (hold_of pass) pass.row pass.known
known_places board pass is =
    let here = count_here pass in
    known_row two_rows (counts_of pass) (hold_of pass) is.in_rows pass.row pass.known is.inside (omega arith) is.narrow

module _ (board : BoardView) (laid : IsLaid two_rows board.owners) (pass after : Pass) (is : IsPass board pass) (row : after.row ≡ pass.row)
    (same_board : after.seat.board ≡ pass.seat.board) where
  -- the value that the next place has is the last one now
  pub grown_values : (x : ℕ) → after.known ≡ pass.known + 1 → Extends (hold_of pass) (hold_of after)
      → (record_of (hold_of after).places (pass.row * 3 + pass.known)).value ≡ Some x → values_of after ≡ values_of pass ++ x ∷ []
  grown_values x known extends has =
      (λ i. row_values two_rows (hold_of after) (row i) (known i))
      ∙ values_appended two_rows (hold_of pass) (hold_of after) pass.row pass.known x (known_places board pass is) extends has

  grown_pass : after.known ≡ pass.known + 1 → pass.known < 3 → InRows two_rows (one_more pass.row (counts_of pass)) (hold_of after) → IsPass board after
  grown_pass known room rows = record {
    same_board = same_board ∙ is.same_board;
    inside = let old = is.inside in omega arith;
    narrow = omega arith;
    in_rows = rows_same two_rows (one_more pass.row (counts_of pass)) (counts_of after) (hold_of after)
        (λ other r. counts_grown pass after row known other) rows;
  }

  -- a value was put
  pub put_pass : (x : ℕ) → after.known ≡ pass.known + 1 → pass.known < 3
      → hold_of after ≡ put_at (pass.row * 3 + pass.known) x (won (pass.row * 3 + pass.known) (hold_of pass)) → IsPass board after
  put_pass x known room now = grown_pass known room
      (subst (InRows two_rows (one_more pass.row (counts_of pass))) (sym now)
      (rows_put two_rows (counts_of pass) pass.row pass.known x (hold_of pass) (count_here pass) is.in_rows is.inside room))

  -- the next value was read
  pub read_pass : (x : ℕ) → after.known ≡ pass.known + 1 → pass.known < 3 → Extends (hold_of pass) (hold_of after)
      → OwnsAll board.owners (hold_of pass) (hold_of after)
      → (hold_of after).rights ≡ (hold_of pass).rights → (record_of (hold_of after).places (pass.row * 3 + pass.known)).value ≡ Some x → IsPass board after
  read_pass x known room extends owns rights has = grown_pass known room
      (rows_read two_rows (counts_of pass) pass.row pass.known (hold_of after) (count_here pass)
      (rows_stay two_rows board.owners laid (counts_of pass) (hold_of pass) (hold_of after) extends owns
      (λ right mine. let same : times right (hold_of after).rights ≡ times right (hold_of pass).rights = ap (times right) rights in
      omega arith) is.in_rows)
      (x, has))

  -- nothing was read
  pub same_pass : after.known ≡ pass.known → Extends (hold_of pass) (hold_of after) → OwnsAll board.owners (hold_of pass) (hold_of after)
      → (hold_of after).rights ≡ (hold_of pass).rights → IsPass board after × (values_of after ≡ values_of pass)
  same_pass known extends owns rights = (
    record {
      same_board = same_board ∙ is.same_board;
      inside = let old = is.inside in omega arith;
      narrow = let old = is.narrow in omega arith;
      in_rows = rows_same two_rows (counts_of pass) (counts_of after) (hold_of after) (λ other r i. if other == row i then known i else 0)
          (rows_stay two_rows board.owners laid (counts_of pass) (hold_of pass) (hold_of after) extends owns
          (λ right mine. let same : times right (hold_of after).rights ≡ times right (hold_of pass).rights = ap (times right) rights in
          omega arith) is.in_rows);
    },
    (λ i. row_values two_rows (hold_of after) (row i) (known i))
        ∙ values_stay two_rows (hold_of pass) (hold_of after) extends pass.row pass.known (known_places board pass is),
  )

-- what passes read that were joined into one seat
pub reads_prefixes : (board : BoardView) (first h : Hold ℕ) (passes : List Pass) → IsLaid two_rows board.owners → All (IsPass board) passes
    → Gathered hold_of board.owners first passes h → IsLawful h → ReadsPrefixes passes
reads_prefixes board first h passes laid each all lawful i j d at there same mine =
    let reader : Pass = get_or passes i d in
    let holder : Pass = get_or passes j d in
    let a = each i d at in
    let b = each j d there in
    let known : reader.known ≡ counts_of reader holder.row = count_here reader ∙ ap (counts_of reader) same in
    let put : holder.known ≡ counts_of holder holder.row = count_here holder in
    let prefix = (read_is_prefix two_rows board.owners laid (counts_of holder) (hold_of holder) h b.in_rows (all.knows_each j d there)
    (all.owns_each j d there) lawful holder.row b.inside mine (counts_of reader) (hold_of reader) a.in_rows (all.knows_each i d at)
    (let n = a.narrow in omega arith)).1 in
    let read_values : values_of reader ≡ row_values two_rows (hold_of reader) holder.row (counts_of reader holder.row)
    = λ k. row_values two_rows (hold_of reader) (same k) (known k) in
    let put_values : values_of holder ≡ row_values two_rows (hold_of holder) holder.row (counts_of holder holder.row)
    = λ k. row_values two_rows (hold_of holder) holder.row (put k) in
    (prefix.0, put_values ∙ (prefix.1 ∙ ap (λ l. l ++ prefix.0) (sym read_values)))

-- a pass that knows nothing yet
pub new_pass : (board : BoardView) (pass : Pass) → pass.seat.board ≡ board.board → pass.row < 2 → pass.known ≡ 0 → IsNew (hold_of pass) → IsPass board pass
new_pass board pass same inside none is = record {
  same_board = same;
  inside = inside;
  narrow = omega arith;
  in_rows = rows_same two_rows (λ row. 0) (counts_of pass) (hold_of pass) (λ other r. dite (ℕ_discrete other pass.row)
      (λ here. rw (eq-eqb other pass.row here) none)
      (λ ne. rw (ne_eqb other pass.row ne) refl)) is;
}
