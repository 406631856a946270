-- The ink box is the least and greatest column and row with a black pixel.
use Rattle.std.proofs.Common.{◌≡◌, ℕ, zero, suc, ◌<◌, ◌≤◌, inl, inr, Bool, true, false, ◌&&◌, ltb, get_or, ◌+◌, ◌*◌, ℤ, pos, negsuc, ◌≤ℤ◌, arith, ap, sym, subst, ◌∙◌}
use Rattle.std.proofs.lemmas.Int.{ints}
use Rattle.std.proofs.lemmas.Bool.{cases_Bool, cases_lt, and_parts, ltb-true, or_cases, cond-true, cond-false, both_ways, false≢true}
use Rattle.bit_plane.specs.declared.ink.InkBox.{InkBox}
use Rattle.bit_plane.specs.Pixels.{Pixels, is_black, is_black_at}
use Rattle.bit_plane.specs.Ink.{any_below, least_below, greatest_below, has_ink_column, has_ink_row, no_ink, ink_box_of, InkColumn, InkRow, IsInkBox, IsWithin}
use Rattle.bit_plane.proofs.InkBoxes.{any_true, any_false}

any_some : (test : ℕ → Bool) (n : ℕ) → any_below test n ≡ true → (k : ℕ) × (k < n) × (test k ≡ true)
any_some test zero e = absurd (false≢true e)
any_some test (suc n) e =
    elim (or_cases (any_below test n) (test n) e) [
      | inl earlier ↦ let found = any_some test n earlier in (found.0, omega (arith, found.1), found.2)
      | inr last ↦ (n, omega arith, last)
    ]

least_passes : (test : ℕ → Bool) (n : ℕ) → any_below test n ≡ true → (test (least_below test n) ≡ true) × (least_below test n < n)
least_passes test zero e = absurd (false≢true e)
least_passes test (suc n) e =
    elim (cases_Bool (any_below test n)) [
      | inl earlier ↦
          let least = cond-true (any_below test n) (least_below test n) n earlier in
          let found = least_passes test n earlier in
          (ap test least ∙ found.0, omega (arith, least, found.1))
      | inr none ↦
          let least = cond-false (any_below test n) (least_below test n) n none in
          elim (or_cases (any_below test n) (test n) e) [
            | inl earlier ↦ absurd (both_ways (any_below test n) none earlier)
            | inr last ↦ (ap test least ∙ last, omega (arith, least))
          ]
    ]

least_le : (test : ℕ → Bool) (n k : ℕ) → k < n → test k ≡ true → least_below test n ≤ k
least_le test zero k p e = absurd (omega arith)
least_le test (suc n) k p e =
    elim (cases_Bool (any_below test n)) [
      | inl earlier ↦
          let least = cond-true (any_below test n) (least_below test n) n earlier in
          let found = least_passes test n earlier in
          elim (cases_lt k n) [
            | inl below ↦ omega (arith, least, least_le test n k below e)
            | inr here ↦ omega (arith, least, found.1)
          ]
      | inr none ↦
          let least = cond-false (any_below test n) (least_below test n) n none in
          elim (cases_lt k n) [
            | inl below ↦ absurd (both_ways (any_below test n) none (any_true test n k below e))
            | inr here ↦ omega (arith, least)
          ]
    ]

greatest_passes : (test : ℕ → Bool) (n : ℕ) → any_below test n ≡ true → test (greatest_below test n) ≡ true
greatest_passes test zero e = absurd (false≢true e)
greatest_passes test (suc n) e =
    elim (cases_Bool (test n)) [
      | inl last ↦ ap test (cond-true (test n) n (greatest_below test n) last) ∙ last
      | inr other ↦
          elim (or_cases (any_below test n) (test n) e) [
            | inl earlier ↦ ap test (cond-false (test n) n (greatest_below test n) other) ∙ greatest_passes test n earlier
            | inr last ↦ absurd (both_ways (test n) other last)
          ]
    ]

le_greatest : (test : ℕ → Bool) (n k : ℕ) → k < n → test k ≡ true → k ≤ greatest_below test n
le_greatest test zero k p e = absurd (omega arith)
le_greatest test (suc n) k p e =
    elim (cases_Bool (test n)) [
      | inl last ↦ omega (arith, cond-true (test n) n (greatest_below test n) last)
      | inr other ↦
          let greatest = cond-false (test n) n (greatest_below test n) other in
          elim (cases_lt k n) [
            | inl below ↦ omega (arith, greatest, le_greatest test n k below e)
            | inr here ↦ let same : k ≡ n = omega arith in absurd (both_ways (test n) other (ap test (sym same) ∙ e))
          ]
    ]

greatest_lt : (test : ℕ → Bool) (n : ℕ) → any_below test n ≡ true → greatest_below test n < n
greatest_lt test zero e = absurd (false≢true e)
greatest_lt test (suc n) e =
    elim (cases_Bool (test n)) [
      | inl last ↦ omega (arith, cond-true (test n) n (greatest_below test n) last)
      | inr other ↦
          elim (or_cases (any_below test n) (test n) e) [
            | inl earlier ↦ omega (arith, cond-false (test n) n (greatest_below test n) other, greatest_lt test n earlier)
            | inr last ↦ absurd (both_ways (test n) other last)
          ]
    ]

-- the ends of the numbers below n that pass
ends : (test : ℕ → Bool) (n : ℕ) → any_below test n ≡ true → (least_below test n ≤ greatest_below test n) × (greatest_below test n < n)
ends test n e =
    let least = least_passes test n e in
    (le_greatest test n (least_below test n) least.1 least.0, greatest_lt test n e)

-- what a box says of a black pixel
record Holds (plane : Pixels) (x y : ℕ) (box : InkBox) : Type 0 where
  within : (box.left ≤ℤ pos x) × (pos x ≤ℤ box.right) × (box.bottom ≤ℤ pos y) × (pos y ≤ℤ box.top)
  left : InkColumn plane box.left
  right : InkColumn plane box.right
  bottom : InkRow plane box.bottom
  top : InkRow plane box.top

ink_column : (plane : Pixels) (x : ℕ) → has_ink_column plane x ≡ true → InkColumn plane (pos x)
ink_column plane x e = let found = any_some (λ y. is_black_at plane x y) plane.height e in (pos found.0, found.2)

ink_row : (plane : Pixels) (y : ℕ) → has_ink_row plane y ≡ true → InkRow plane (pos y)
ink_row plane y e = let found = any_some (λ x. is_black_at plane x y) plane.width e in (pos found.0, found.2)

-- the box where there is ink
abbrev inked : Pixels → InkBox
inked plane = record {
  left = pos (least_below (has_ink_column plane) plane.width);
  right = pos (greatest_below (has_ink_column plane) plane.width);
  bottom = pos (least_below (has_ink_row plane) plane.height);
  top = pos (greatest_below (has_ink_row plane) plane.height);
}

holds : (plane : Pixels) (x y : ℕ) → is_black_at plane x y ≡ true → Holds plane x y (ink_box_of plane)
holds plane x y black =
    let inside = (and_parts (ltb x plane.width && ltb y plane.height) (get_or plane.black (y * plane.width + x) false) black).0 in
    let sides = and_parts (ltb x plane.width) (ltb y plane.height) inside in
    let in_width = ltb-true x plane.width sides.0 in
    let in_height = ltb-true y plane.height sides.1 in
    let column = any_true (λ y. is_black_at plane x y) plane.height y in_height black in
    let row = any_true (λ x. is_black_at plane x y) plane.width x in_width black in
    let columns = any_true (has_ink_column plane) plane.width x in_width column in
    let rows = any_true (has_ink_row plane) plane.height y in_height row in
    subst (Holds plane x y) (sym (cond-true (any_below (has_ink_column plane) plane.width) (inked plane) no_ink columns)) (record {
      within = (
        omega (arith, ints, least_le (has_ink_column plane) plane.width x in_width column),
        omega (arith, ints, le_greatest (has_ink_column plane) plane.width x in_width column),
        omega (arith, ints, least_le (has_ink_row plane) plane.height y in_height row),
        omega (arith, ints, le_greatest (has_ink_row plane) plane.height y in_height row),
      );
      left = ink_column plane (least_below (has_ink_column plane) plane.width) (least_passes (has_ink_column plane) plane.width columns).0;
      right = ink_column plane (greatest_below (has_ink_column plane) plane.width) (greatest_passes (has_ink_column plane) plane.width columns);
      bottom = ink_row plane (least_below (has_ink_row plane) plane.height) (least_passes (has_ink_row plane) plane.height rows).0;
      top = ink_row plane (greatest_below (has_ink_row plane) plane.height) (greatest_passes (has_ink_row plane) plane.height rows);
    })

-- a black pixel has a place from 0 on
natural : (plane : Pixels) (P : InkBox → ℤ → ℤ → Type 0) → ((x y : ℕ) → Holds plane x y (ink_box_of plane) → P (ink_box_of plane) (pos x) (pos y)) →
    (x y : ℤ) → is_black plane x y ≡ true → P (ink_box_of plane) x y
natural plane P so (pos x) (pos y) black = so x y (holds plane x y black)
natural plane P so (pos x) (negsuc y) black = absurd (false≢true black)
natural plane P so (negsuc x) (pos y) black = absurd (false≢true black)
natural plane P so (negsuc x) (negsuc y) black = absurd (false≢true black)

pub is_ink_box : (plane : Pixels) → IsInkBox plane (ink_box_of plane)
is_ink_box plane = record {
  within = natural plane (λ box x y. (box.left ≤ℤ x) × (x ≤ℤ box.right) × (box.bottom ≤ℤ y) × (y ≤ℤ box.top)) (λ x y so. so.within);
  left = natural plane (λ box x y. InkColumn plane box.left) (λ x y so. so.left);
  right = natural plane (λ box x y. InkColumn plane box.right) (λ x y so. so.right);
  bottom = natural plane (λ box x y. InkRow plane box.bottom) (λ x y so. so.bottom);
  top = natural plane (λ box x y. InkRow plane box.top) (λ x y so. so.top);
}

pub white_box : (plane : Pixels) → ((x y : ℤ) → is_black plane x y ≡ false) → ink_box_of plane ≡ no_ink
white_box plane white =
    cond-false (any_below (has_ink_column plane) plane.width) (inked plane) no_ink
    (any_false (has_ink_column plane) plane.width (λ x p. any_false (λ y. is_black_at plane x y) plane.height (λ y q. white (pos x) (pos y))))

pub is_ink_box_at : (plane : Pixels) (box : InkBox) → box ≡ ink_box_of plane → IsInkBox plane box
is_ink_box_at plane box e = subst (IsInkBox plane) (sym e) (is_ink_box plane)

-- where a column has ink, a row has
ink_rows : (plane : Pixels) → any_below (has_ink_column plane) plane.width ≡ true → any_below (has_ink_row plane) plane.height ≡ true
ink_rows plane e =
    let column = any_some (has_ink_column plane) plane.width e in
    let pixel = any_some (λ y. is_black_at plane column.0 y) plane.height column.2 in
    any_true (has_ink_row plane) plane.height pixel.0 pixel.1 (any_true (λ x. is_black_at plane x pixel.0) plane.width column.0 column.1 pixel.2)

pub box_within : (plane : Pixels) → IsWithin plane (ink_box_of plane)
box_within plane =
    elim (cases_Bool (any_below (has_ink_column plane) plane.width)) [
      | inl some ↦
          let columns = ends (has_ink_column plane) plane.width some in
          let rows = ends (has_ink_row plane) plane.height (ink_rows plane some) in
          subst (IsWithin plane) (sym (cond-true (any_below (has_ink_column plane) plane.width) (inked plane) no_ink some)) (record {
            left = omega (arith, ints);
            right = omega (arith, ints, columns.1);
            width = omega (arith, ints, columns.0);
            bottom = omega (arith, ints);
            top = omega (arith, ints, rows.1);
            height = omega (arith, ints, rows.0);
          })
      | inr none ↦
          subst (IsWithin plane) (sym (cond-false (any_below (has_ink_column plane) plane.width) (inked plane) no_ink none)) (record {
            left = omega (arith, ints);
            right = omega (arith, ints);
            width = omega (arith, ints);
            bottom = omega (arith, ints);
            top = omega (arith, ints);
            height = omega (arith, ints);
          })
    ]

pub box_within_at : (plane : Pixels) (box : InkBox) → box ≡ ink_box_of plane → IsWithin plane box
box_within_at plane box e = subst (IsWithin plane) (sym e) (box_within plane)
