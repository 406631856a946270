-- Rows that are set one after another.
use Rattle.std.proofs.Common.{◌≡◌, ℕ, ◌+◌, ◌*◌, ◌<◌, ◌≤◌, ◌⊎◌, inl, inr, max, List, arith, ap, sym, ◌∙◌}
use Rattle.std.proofs.lemmas.Bool.{cases_lt, cases_order}
use Rattle.std.proofs.lemmas.Nat.{mul-le}
use Rattle.bit_plane.specs.Bits.{bit}

-- so many rows are set, and no other pixel is touched
pub record RowsRan (old new : List ℕ) (width : ℕ) (other : List ℕ) (other_width : ℕ) (left from count top from_row done : ℕ) : Type 0 where
  pub inside : (y x : ℕ) → y < done → x < count →
      bit new ((top + y) * width + (left + x)) ≡ max (bit old ((top + y) * width + (left + x))) (bit other ((from_row + y) * other_width + (from + x)))
  pub outside : (y x : ℕ) → x < width → ((y < top) ⊎ (top + done ≤ y)) ⊎ ((x < left) ⊎ (left + count ≤ x)) → bit new (y * width + x) ≡ bit old (y * width + x)

-- a place of another row, or of the same row beside the run, lies before or behind the run
apart_from_run : (width left count row y x : ℕ) → left + count ≤ width → x < width → ((y < row) ⊎ (row + 1 ≤ y)) ⊎ ((x < left) ⊎ (left + count ≤ x)) →
    (y * width + x < row * width + left) ⊎ (row * width + left + count ≤ y * width + x)
apart_from_run width left count row y x fits inside (inl (inl below)) =
    inl (omega (arith, mul-le (y + 1) width (row) width (omega arith) (omega arith)))
apart_from_run width left count row y x fits inside (inl (inr above)) =
    inr (omega (arith, mul-le (row + 1) width (y) width above (omega arith)))
apart_from_run width left count row y x fits inside (inr beside) =
    elim (cases_order y row) [
      | inl same ↦
          let product : y * width ≡ row * width = ap (λ n. n * width) same in
          elim beside [
            | inl before ↦ inl (omega arith)
            | inr behind ↦ inr (omega arith)
          ]
      | inr other ↦
          elim other [
            | inl below ↦ inl (omega (arith, mul-le (y + 1) width (row) width (omega arith) (omega arith)))
            | inr above ↦ inr (omega (arith, mul-le (row + 1) width (y) width (omega arith) (omega arith)))
          ]
    ]

nearer : {Q : Type 0} (top done y : ℕ) → ((y < top) ⊎ (top + (done + 1) ≤ y)) ⊎ Q → ((y < top + done) ⊎ (top + done + 1 ≤ y)) ⊎ Q
nearer top done y (inl (inl below)) = inl (inl (omega arith))
nearer top done y (inl (inr above)) = inl (inr (omega arith))
nearer top done y (inr beside) = inr beside

fewer : {Q : Type 0} (top done y : ℕ) → ((y < top) ⊎ (top + (done + 1) ≤ y)) ⊎ Q → ((y < top) ⊎ (top + done ≤ y)) ⊎ Q
fewer top done y (inl (inl below)) = inl (inl below)
fewer top done y (inl (inr above)) = inl (inr (omega arith))
fewer top done y (inr beside) = inr beside

-- one more row
pub rows_more : (old mid new : List ℕ) (width : ℕ) (other : List ℕ) (other_width left from count top from_row done : ℕ) → left + count ≤ width →
    RowsRan old mid width other other_width left from count top from_row done →
    ((i : ℕ) → i < count → bit new ((top + done) * width + left + i) ≡ max (bit mid ((top + done) * width + left + i)) (bit other ((from_row + done) * other_width + from + i))) →
    ((i : ℕ) → (i < (top + done) * width + left) ⊎ ((top + done) * width + left + count ≤ i) → bit new i ≡ bit mid i) →
    RowsRan old new width other other_width left from count top from_row (done + 1)
rows_more old mid new width other other_width left from count top from_row done fits ran inside outside = record {
  inside = λ y x p q.
      elim (cases_lt y done) [
        | inl before ↦
            outside ((top + y) * width + (left + x)) (apart_from_run width left count (top + done) (top + y) (left + x) fits (omega arith) (inl (inl (omega arith))))
            ∙ ran.inside y x before q
        | inr here ↦
            let row : y ≡ done = omega arith in
            let at : (top + done) * width + left + x ≡ (top + y) * width + (left + x) = ap (λ n. (top + n) * width + left + x) (sym row) ∙ omega arith in
            let source : (from_row + done) * other_width + from + x ≡ (from_row + y) * other_width + (from + x) = ap (λ n. (from_row + n) * other_width + from + x) (sym row) ∙ omega arith in
            let was = ran.outside (top + y) (left + x) (omega arith) (inl (inr (omega arith))) in
            ap (bit new) (sym at) ∙ inside x q ∙ ap (λ n. max (bit mid n) (bit other ((from_row + done) * other_width + from + x))) at
            ∙ ap (λ b. max b (bit other ((from_row + done) * other_width + from + x))) was
            ∙ ap (λ n. max (bit old ((top + y) * width + (left + x))) (bit other n)) source
      ];
  outside = λ y x p apart.
      outside (y * width + x) (apart_from_run width left count (top + done) y x fits p (nearer top done y apart))
      ∙ ran.outside y x p (fewer top done y apart);
}
