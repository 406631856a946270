-- The ink box of packed words.
use Rattle.std.proofs.Common.{◌≡◌, ℕ, zero, suc, ◌+◌, ◌-◌, ◌*◌, ◌/◌, ◌%◌, ◌<◌, ◌≤◌, inl, inr, Bool, true, false, List, pos, ◌-ℤ◌, ℤ, arith, refl, ap, sym, ◌∙◌}
use Rattle.std.proofs.Math.Nat.{mul_comm}
use Rattle.std.proofs.lemmas.Int.{ints}
use Rattle.std.proofs.lemmas.Bool.{cases_lt, eq-eqb, ne_eqb, or_left, or_right, or_from, cond-true, cond-false}
use Rattle.std.proofs.lemmas.Nat.{div_below, mod_below, div-add-mod', mul-le}
use Rattle.bit_plane.specs.declared.ink.InkBox.{InkBox}
use Rattle.bit_plane.specs.Bits.{bit}
use Rattle.bit_plane.specs.Pixels.{Pixels, is_black_at, area_limit}
use Rattle.bit_plane.specs.Packed.{pixels_of, IsPacked}
use Rattle.bit_plane.specs.Ink.{any_below, least_below, greatest_below, has_ink_column, has_ink_row, no_ink, ink_box_of}
use Rattle.bit_plane.specs.Columns.{IsLeft, IsBehind, IsFirst, IsLast, IsClear}
use Rattle.bit_plane.proofs.PaintLemmas.{black_packed}

-- ---- the least and the greatest number that passes

pub any_true : (test : ℕ → Bool) (n k : ℕ) → k < n → test k ≡ true → any_below test n ≡ true
any_true test zero k p e = absurd (omega arith)
any_true test (suc n) k p e =
    elim (cases_lt k n) [
      | inl below ↦ or_left (any_below test n) (test n) (any_true test n k below e)
      | inr here ↦ let same : n ≡ k = omega arith in or_right (any_below test n) (test n) (ap test same ∙ e)
    ]

pub any_false : (test : ℕ → Bool) (n : ℕ) → ((k : ℕ) → k < n → test k ≡ false) → any_below test n ≡ false
any_false test zero none = refl
any_false test (suc n) none = or_from (any_below test n) (test n) (any_false test n (λ k p. none k (omega arith))) (none n (omega arith))

pub least_is : (test : ℕ → Bool) (n k : ℕ) → k < n → test k ≡ true → ((j : ℕ) → j < k → test j ≡ false) → least_below test n ≡ k
least_is test zero k p e none = absurd (omega arith)
least_is test (suc n) k p e none =
    elim (cases_lt k n) [
      | inl below ↦ cond-true (any_below test n) (least_below test n) n (any_true test n k below e) ∙ least_is test n k below e none
      | inr here ↦
          let same : n ≡ k = omega arith in
          cond-false (any_below test n) (least_below test n) n (any_false test n (λ j q. none j (omega arith))) ∙ same
    ]

pub greatest_is : (test : ℕ → Bool) (n k : ℕ) → k < n → test k ≡ true → ((j : ℕ) → k < j → j < n → test j ≡ false) → greatest_below test n ≡ k
greatest_is test zero k p e none = absurd (omega arith)
greatest_is test (suc n) k p e none =
    elim (cases_lt k n) [
      | inl below ↦ cond-false (test n) n (greatest_below test n) (none n below (omega arith)) ∙ greatest_is test n k below e (λ j q r. none j q (omega arith))
      | inr here ↦
          let same : n ≡ k = omega arith in
          cond-true (test n) n (greatest_below test n) (ap test same ∙ e) ∙ same
    ]

abbrev box : ℤ → ℤ → ℤ → ℤ → InkBox
box a b c d = record { left = a; right = b; bottom = c; top = d }

same_box : (a b c d a' b' c' d' : ℤ) → a ≡ a' → b ≡ b' → c ≡ c' → d ≡ d' →
    box a b c d ≡ box a' b' c' d'
same_box a b c d a' b' c' d' p q r s = cc

-- ---- the columns and rows of packed words

module _ (w h : ℕ) (words : List ℕ) where
  column_true : (x y : ℕ) → x < w → y < h → bit words (y * w + x) ≡ 1 → has_ink_column (pixels_of w h words) x ≡ true
  column_true x y p q set = any_true (λ y. is_black_at (pixels_of w h words) x y) h y q (black_packed w h words x y p q ∙ eq-eqb _ 1 set)

  column_false : (x : ℕ) → x < w → ((y : ℕ) → y < h → bit words (y * w + x) ≡ 0) → has_ink_column (pixels_of w h words) x ≡ false
  column_false x p none = any_false (λ y. is_black_at (pixels_of w h words) x y) h (λ y q. black_packed w h words x y p q ∙ ne_eqb _ 1 (λ e. omega (arith, none y q)))

  row_true : (x y : ℕ) → x < w → y < h → bit words (y * w + x) ≡ 1 → has_ink_row (pixels_of w h words) y ≡ true
  row_true x y p q set = any_true (λ x. is_black_at (pixels_of w h words) x y) w x p (black_packed w h words x y p q ∙ eq-eqb _ 1 set)

  row_false : (y : ℕ) → y < h → ((x : ℕ) → x < w → bit words (y * w + x) ≡ 0) → has_ink_row (pixels_of w h words) y ≡ false
  row_false y q none = any_false (λ x. is_black_at (pixels_of w h words) x y) w (λ x p. black_packed w h words x y p q ∙ ne_eqb _ 1 (λ e. omega (arith, none x p)))

  abbrev plane : Pixels
  plane = pixels_of w h words

  -- the box where there is ink
  abbrev inked_box : InkBox
  inked_box = record {
    left = pos (least_below (has_ink_column plane) w);
    right = pos (greatest_below (has_ink_column plane) w);
    bottom = pos (least_below (has_ink_row plane) h);
    top = pos (greatest_below (has_ink_row plane) h);
  }

  -- without a set bit there is no ink
  pub clear_is : IsClear words → no_ink ≡ ink_box_of plane
  clear_is clear =
      let none = any_false (has_ink_column plane) w (λ x p. column_false x p (λ y q. clear (y * w + x))) in
      sym (cond-false (any_below (has_ink_column plane) w) inked_box no_ink none)

  some_width : (i : ℕ) → i < w * h → 0 < w
  some_width i p = elim (cases_lt 0 w) [ inl some ↦ some | inr none ↦ absurd (omega (arith, mul-le w h 0 h none (omega arith))) ]

  -- a bit that is set is that of a pixel
  pub pixel_of : (i : ℕ) → IsPacked w h words → bit words i ≡ 1 → (0 < w) × (i < w * h) × (i / w < h) × (i % w < w) × (i / w * w + i % w ≡ i)
  pixel_of i packed set =
      let within : i < w * h = elim (cases_lt i (w * h)) [ inl below ↦ below | inr past ↦ absurd (omega (arith, packed.rest i past)) ] in
      let some = some_width i within in
      (some, within, div_below i w h some (omega (arith, mul_comm w h)), mod_below i w some, div-add-mod' i w)

  pub left_is : (left : ℕ) (x y : ℕ) → IsLeft words w h left → x < w → y < h → bit words (y * w + x) ≡ 1 → least_below (has_ink_column plane) w ≡ left
  left_is left x y is p q set =
      let within : left < w = elim (cases_lt left w) [ inl below ↦ below | inr past ↦ absurd (omega (arith, is.white x y (omega arith) q)) ] in
      let there = is.black within in
      least_is (has_ink_column plane) w left within (column_true left there.0 within there.1 there.2)
      (λ j r. column_false j (omega arith) (λ y q. is.white j y r q))

  pub right_is : (behind : ℕ) (x y : ℕ) → IsBehind words w h behind → x < w → y < h → bit words (y * w + x) ≡ 1 →
      (0 < behind) × (greatest_below (has_ink_column plane) w ≡ behind - 1)
  right_is behind x y is p q set =
      let some : 0 < behind = elim (cases_lt 0 behind) [ inl some ↦ some | inr none ↦ absurd (omega (arith, is.white x y (omega arith) p q)) ] in
      let there = is.black (behind - 1) (omega arith) in (
        some,
        greatest_is (has_ink_column plane) w (behind - 1) (omega (arith, is.within)) (column_true (behind - 1) there.0 (omega (arith, is.within)) there.1 there.2)
            (λ j r s. column_false j s (λ y q. is.white j y (omega arith) s q)),
      )

  pub bottom_is : (first : ℕ) → IsPacked w h words → IsFirst words first → least_below (has_ink_row plane) h ≡ first / w
  bottom_is first packed is =
      let at = pixel_of first packed is.set in
      least_is (has_ink_row plane) h (first / w) at.2 (row_true (first % w) (first / w) at.3 at.2 (ap (bit words) at.4 ∙ is.set))
      (λ j p. row_false j (omega (arith, at.2)) (λ x q. is.others (j * w + x) (omega (arith, at.4, mul-le (j + 1) w (first / w) w (omega arith) (omega arith)))))

  pub top_is : (last : ℕ) → IsPacked w h words → IsLast words last → greatest_below (has_ink_row plane) h ≡ last / w
  top_is last packed is =
      let at = pixel_of last packed is.set in
      greatest_is (has_ink_row plane) h (last / w) at.2 (row_true (last % w) (last / w) at.3 at.2 (ap (bit words) at.4 ∙ is.set))
      (λ j p q. row_false j q (λ x r. is.others (j * w + x) (omega (arith, at.4, at.3, mul-le (last / w + 1) w j w (omega arith) (omega arith)))))

  pub box_is : (first last left behind : ℕ) (a b c d : ℤ) → IsPacked w h words → IsFirst words first → IsLast words last → IsLeft words w h left → IsBehind words w h behind →
      a ≡ pos left → b ≡ pos behind -ℤ pos 1 → c ≡ pos (first / w) → d ≡ pos (last / w) →
      record { left = a; right = b; bottom = c; top = d } ≡ ink_box_of plane
  box_is first last left behind a b c d packed is_first is_last is_left is_behind e f g k =
      let at = pixel_of first packed is_first.set in
      let set = ap (bit words) at.4 ∙ is_first.set in
      let some = any_true (has_ink_column plane) w (first % w) at.3 (column_true (first % w) (first / w) at.3 at.2 set) in
      let of_left = left_is left (first % w) (first / w) is_left at.3 at.2 set in
      let of_right = right_is behind (first % w) (first / w) is_behind at.3 at.2 set in
      let of_bottom = bottom_is first packed is_first in
      let of_top = top_is last packed is_last in
      let left_same : a ≡ pos (least_below (has_ink_column plane) w) = omega (arith, ints) in
      let right_same : b ≡ pos (greatest_below (has_ink_column plane) w) = omega (arith, ints) in
      let bottom_same : c ≡ pos (least_below (has_ink_row plane) h) = omega (arith, ints) in
      let top_same : d ≡ pos (greatest_below (has_ink_row plane) h) = omega (arith, ints) in
      same_box a b c d _ _ _ _ left_same right_same bottom_same top_same
      ∙ sym (cond-true (any_below (has_ink_column plane) w) inked_box no_ink some)

  -- a plane with ink isn't wider than its area
  pub width_small : (i : ℕ) → IsPacked w h words → bit words i ≡ 1 → w ≤ area_limit
  width_small i packed set =
      let at = pixel_of i packed set in
      omega (arith, packed.area, at.2, mul-le w 1 w h (omega arith) (omega (arith, at.2)))
