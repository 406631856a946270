-- Windows of refined shapes move right by one digit a row, and a pixel that is read isn't in its own window.
use Rattle.std.proofs.Common.{◌≡◌, ℕ, ◌+◌, ◌-◌, ◌*◌, ◌/◌, ◌%◌, ◌^◌, ◌<◌, ◌≤◌, Bool, true, false, [], ◌∷◌, ◌++◌, ℤ, pos, ◌+ℤ◌, ◌-ℤ◌, refl, ap, sym, subst, ◌∙◌, arith}
use Rattle.std.proofs.lemmas.Int.{ints}
use Rattle.bit_plane.specs.Bits.{digit as bit_at}
use Rattle.bit_plane.specs.Pixels.{Pixels, is_black}
use Rattle.bit_plane.proofs.Lemmas.{wide}
use Rattle.jb2_shapes.specs.Shape.{Sketch, IsUnread, column_of, row_of, with_pixel}
use Rattle.bit_plane.specs.Bits.{digit_of}
use Rattle.jb2_shapes.specs.Numbers.{number_from, number_of, number_limit, IsNumber}
use Rattle.jb2_shapes.specs.declared.windows.RefinedWindow.{RefinedWindow}
use Rattle.jb2_shapes.specs.Refined.{Matching, matching_context, new_colours, matched_colours}
use Rattle.bit_plane.specs.Rows.{IsRun}
use Rattle.jb2_shapes.specs.Rows.{IsDigit, IsFirstThree}
use Rattle.jb2_shapes.specs.Windows.{IsRefinedWindow}
use Rattle.jb2_shapes.proofs.Placing.{still, next_in_row}
use Rattle.jb2_shapes.proofs.Running.{run_at, run_on, run_still}
use Rattle.jb2_shapes.proofs.Windowing.{digit-le, three_right, three_same}

-- ---- three colours, after those at the left

pub three_on : (shape : Pixels) (left x y : ℤ) (old new : ℕ) (colour : Bool) → left +ℤ pos 1 ≡ x →
    old ≡ number_from 0 (is_black shape (left -ℤ pos 1) y ∷ is_black shape left y ∷ is_black shape (left +ℤ pos 1) y ∷ []) →
    new ≡ 2 * (old % 4) + digit_of colour → colour ≡ is_black shape (x +ℤ pos 1) y →
    new ≡ number_from 0 (is_black shape (x -ℤ pos 1) y ∷ is_black shape x y ∷ is_black shape (x +ℤ pos 1) y ∷ [])
three_on shape left x y old new colour e p q r =
    let back : left ≡ x -ℤ pos 1 = omega (arith, ints) in
    three_right _ _ _ colour old new p q
    ∙ three_same (ap (λ a. is_black shape a y) back) (ap (λ a. is_black shape a y) e) r

refined_right : (matching : Matching) (shape : Pixels) (x y : ℤ) (window new : RefinedWindow) (above beside under : Bool) →
    IsRefinedWindow matching shape (x -ℤ pos 1) y window →
    new.above ≡ 2 * (window.above % 4) + digit_of above → above ≡ is_black shape (x +ℤ pos 1) (y +ℤ pos 1) →
    new.left ≡ is_black shape (x -ℤ pos 1) y →
    new.over ≡ is_black matching.matched (x +ℤ matching.right) (y +ℤ matching.up +ℤ pos 1) →
    new.beside ≡ 2 * (window.beside % 4) + digit_of beside → beside ≡ is_black matching.matched (x +ℤ matching.right +ℤ pos 1) (y +ℤ matching.up) →
    new.under ≡ 2 * (window.under % 4) + digit_of under → under ≡ is_black matching.matched (x +ℤ matching.right +ℤ pos 1) (y +ℤ matching.up -ℤ pos 1) →
    new.above_ahead ≡ window.above_ahead / 2 ^ 1 → new.over_ahead ≡ window.over_ahead / 2 ^ 1 →
    new.beside_ahead ≡ window.beside_ahead / 2 ^ 1 → new.under_ahead ≡ window.under_ahead / 2 ^ 1 → new.more + 1 ≤ window.more →
    IsRefinedWindow matching shape x y new
refined_right matching shape x y window new above beside under at p a l o q b r u f g h i less =
    let mx = x +ℤ matching.right in
    let my = y +ℤ matching.up in
    let old_mx = x -ℤ pos 1 +ℤ matching.right in
    let column : x -ℤ pos 1 +ℤ pos 1 ≡ x = omega (arith, ints) in
    let matched_column : x -ℤ pos 1 +ℤ matching.right +ℤ pos 1 ≡ x +ℤ matching.right = omega (arith, ints) in
    record {
      above = three_on shape (x -ℤ pos 1) x (y +ℤ pos 1) window.above new.above above column at.above p a;
      left = l;
      over = o;
      beside = three_on matching.matched (x -ℤ pos 1 +ℤ matching.right) (x +ℤ matching.right) (y +ℤ matching.up) window.beside new.beside beside matched_column at.beside q b;
      under = three_on matching.matched (x -ℤ pos 1 +ℤ matching.right) (x +ℤ matching.right) (y +ℤ matching.up -ℤ pos 1) window.under new.under under matched_column at.under r u;
      above_ahead = run_on shape (x -ℤ pos 1 +ℤ pos 2) (y +ℤ pos 1) (x +ℤ pos 2) (y +ℤ pos 1) 1 window.more new.more window.above_ahead new.above_ahead
          at.above_ahead (omega arith) (omega (arith, ints)) refl f;
      over_ahead = run_on matching.matched (old_mx +ℤ pos 1) (my +ℤ pos 1) (mx +ℤ pos 1) (my +ℤ pos 1) 1 window.more new.more window.over_ahead new.over_ahead
          at.over_ahead (omega arith) (omega (arith, ints)) refl g;
      beside_ahead = run_on matching.matched (old_mx +ℤ pos 2) my (mx +ℤ pos 2) my 1 window.more new.more window.beside_ahead new.beside_ahead
          at.beside_ahead (omega arith) (omega (arith, ints)) refl h;
      under_ahead = run_on matching.matched (old_mx +ℤ pos 2) (my -ℤ pos 1) (mx +ℤ pos 2) (my -ℤ pos 1) 1 window.more new.more window.under_ahead new.under_ahead
          at.under_ahead (omega arith) (omega (arith, ints)) refl i;
    }

-- of which the new colours were at hand
pub refined_next : (matching : Matching) (shape : Pixels) (x y : ℤ) (window new : RefinedWindow) (above over beside under black : Bool) →
    IsRefinedWindow matching shape (x -ℤ pos 1) y window → is_black shape (x -ℤ pos 1) y ≡ black → 0 < window.more →
    new.above ≡ 2 * (window.above % 4) + digit_of above → new.left ≡ black → new.over ≡ over → new.beside ≡ 2 * (window.beside % 4) + digit_of beside →
    new.under ≡ 2 * (window.under % 4) + digit_of under →
    IsDigit window.above_ahead 0 above → IsDigit window.over_ahead 0 over → IsDigit window.beside_ahead 0 beside → IsDigit window.under_ahead 0 under →
    new.above_ahead ≡ window.above_ahead / 2 ^ 1 → new.over_ahead ≡ window.over_ahead / 2 ^ 1 →
    new.beside_ahead ≡ window.beside_ahead / 2 ^ 1 → new.under_ahead ≡ window.under_ahead / 2 ^ 1 → new.more + 1 ≡ window.more →
    IsRefinedWindow matching shape x y new
refined_next matching shape x y window new above over beside under black at colour some p l o q r a v b u f g h i less =
    let mx = x +ℤ matching.right in
    let my = y +ℤ matching.up in
    let old_mx = x -ℤ pos 1 +ℤ matching.right in
    let matched = matching.matched in
    refined_right matching shape x y window new above beside under at p
    (a (is_black shape (x +ℤ pos 1) (y +ℤ pos 1))
    (run_at shape (x -ℤ pos 1 +ℤ pos 2) (y +ℤ pos 1) (x +ℤ pos 1) (y +ℤ pos 1) window.more window.above_ahead 0 at.above_ahead some (omega (arith, ints)) refl))
    (l ∙ sym colour)
    (o
    ∙ v (is_black matched mx (my +ℤ pos 1))
    (run_at matched (old_mx +ℤ pos 1) (my +ℤ pos 1) mx (my +ℤ pos 1) window.more window.over_ahead 0 at.over_ahead some (omega (arith, ints)) refl))
    q
    (b (is_black matched (mx +ℤ pos 1) my)
    (run_at matched (old_mx +ℤ pos 2) my (mx +ℤ pos 1) my window.more window.beside_ahead 0 at.beside_ahead some (omega (arith, ints)) refl))
    r
    (u (is_black matched (mx +ℤ pos 1) (my -ℤ pos 1))
    (run_at matched (old_mx +ℤ pos 2) (my -ℤ pos 1) (mx +ℤ pos 1) (my -ℤ pos 1) window.more window.under_ahead 0 at.under_ahead some (omega (arith, ints)) refl))
    f g h i (omega (arith, less))

-- three colours that are at hand
three_from : (shape : Pixels) (x y : ℤ) (word number : ℕ) → IsRun shape (x -ℤ pos 1) y 64 word → IsFirstThree word number →
    number ≡ number_from 0 (is_black shape (x -ℤ pos 1) y ∷ is_black shape x y ∷ is_black shape (x +ℤ pos 1) y ∷ [])
three_from shape x y word number run three =
    let of : (a : ℤ) (i : ℕ) → i < 64 → x -ℤ pos 1 +ℤ pos i ≡ a → bit_at word i ≡ digit_of (is_black shape a y) =
    λ a i p e. run_at shape (x -ℤ pos 1) y a y 64 word i run p e refl in
    three _ _ _ (of (x -ℤ pos 1) 0 (omega arith) (omega (arith, ints))) (of x 1 (omega arith) (omega (arith, ints))) (of (x +ℤ pos 1) 2 (omega arith) (omega (arith, ints)))

pub refined_around : (matching : Matching) (shape : Pixels) (x y : ℤ) (above own over beside under : ℕ) (window : RefinedWindow) →
    IsRun shape (x -ℤ pos 1) (y +ℤ pos 1) 64 above → IsRun shape (x -ℤ pos 1) y 64 own →
    IsRun matching.matched (x +ℤ matching.right) (y +ℤ matching.up +ℤ pos 1) 64 over →
    IsRun matching.matched (x +ℤ matching.right -ℤ pos 1) (y +ℤ matching.up) 64 beside →
    IsRun matching.matched (x +ℤ matching.right -ℤ pos 1) (y +ℤ matching.up -ℤ pos 1) 64 under →
    IsFirstThree above window.above → IsDigit own 0 window.left → IsDigit over 0 window.over → IsFirstThree beside window.beside → IsFirstThree under window.under →
    window.above_ahead ≡ above / 2 ^ 3 → window.over_ahead ≡ over / 2 ^ 1 → window.beside_ahead ≡ beside / 2 ^ 3 → window.under_ahead ≡ under / 2 ^ 3 →
    window.more ≤ 61 → IsRefinedWindow matching shape x y window
refined_around matching shape x y above own over beside under window a w o b u three left one some rest f g h i more =
    let mx = x +ℤ matching.right in
    let my = y +ℤ matching.up in
    let matched = matching.matched in
    record {
      above = three_from shape x (y +ℤ pos 1) above window.above a three;
      left = left _ (run_at shape (x -ℤ pos 1) y (x -ℤ pos 1) y 64 own 0 w (omega arith) (omega (arith, ints)) refl);
      over = one _ (run_at matched mx (my +ℤ pos 1) mx (my +ℤ pos 1) 64 over 0 o (omega arith) (omega (arith, ints)) refl);
      beside = three_from matched mx my beside window.beside b some;
      under = three_from matched mx (my -ℤ pos 1) under window.under u rest;
      above_ahead = run_on shape (x -ℤ pos 1) (y +ℤ pos 1) (x +ℤ pos 2) (y +ℤ pos 1) 3 64 window.more above window.above_ahead a (omega arith) (omega (arith, ints)) refl f;
      over_ahead = run_on matched mx (my +ℤ pos 1) (mx +ℤ pos 1) (my +ℤ pos 1) 1 64 window.more over window.over_ahead o (omega arith) (omega (arith, ints)) refl g;
      beside_ahead = run_on matched (mx -ℤ pos 1) my (mx +ℤ pos 2) my 3 64 window.more beside window.beside_ahead b (omega arith) (omega (arith, ints)) refl h;
      under_ahead = run_on matched (mx -ℤ pos 1) (my -ℤ pos 1) (mx +ℤ pos 2) (my -ℤ pos 1) 3 64 window.more under window.under_ahead u (omega arith) (omega (arith, ints)) refl i;
    }

-- ---- the number of a refined context

pub refined_number : (matching : Matching) (shape : Pixels) (x y : ℤ) (window : RefinedWindow) (number : ℕ) → IsRefinedWindow matching shape x y window →
    number ≡ 2048 + 256 * window.above + 128 * digit_of window.left + 64 * digit_of window.over + 8 * window.beside + window.under →
    number_of (matching_context matching shape x y) ≡ number
refined_number matching shape x y window number at e =
    let a = at.above in
    let l = ap digit_of at.left in
    let o = ap digit_of at.over in
    let b = at.beside in
    let u = at.under in
    omega arith

refined_bound : (p q r s t u v w x y z : Bool) → number_of (p ∷ q ∷ r ∷ s ∷ t ∷ u ∷ v ∷ w ∷ x ∷ y ∷ z ∷ []) < 4096
refined_bound p q r s t u v w x y z =
    omega (arith, digit-le p, digit-le q, digit-le r, digit-le s, digit-le t, digit-le u, digit-le v, digit-le w, digit-le x, digit-le y, digit-le z)

refined_below : (matched shape : Pixels) (x y a b : ℤ) → number_of (new_colours shape x y ++ matched_colours matched a b) < 4096
refined_below matched shape x y a b =
    refined_bound
    (is_black shape (x -ℤ pos 1) (y +ℤ pos 1)) (is_black shape x (y +ℤ pos 1)) (is_black shape (x +ℤ pos 1) (y +ℤ pos 1)) (is_black shape (x -ℤ pos 1) y)
    (is_black matched a (b +ℤ pos 1))
    (is_black matched (a -ℤ pos 1) b) (is_black matched a b) (is_black matched (a +ℤ pos 1) b)
    (is_black matched (a -ℤ pos 1) (b -ℤ pos 1)) (is_black matched a (b -ℤ pos 1)) (is_black matched (a +ℤ pos 1) (b -ℤ pos 1))

pub refined_is_number : (matching : Matching) (shape : Pixels) (x y : ℤ) (window : RefinedWindow) (number : ℕ) → IsRefinedWindow matching shape x y window →
    number ≡ 2048 + 256 * window.above + 128 * digit_of window.left + 64 * digit_of window.over + 8 * window.beside + window.under → IsNumber number
unfolding number_limit
refined_is_number matching shape x y window number at e =
    let is = refined_number matching shape x y window number at e in
    let bound = refined_below matching.matched shape x y (x +ℤ matching.right) (y +ℤ matching.up) in
    record { colours = matching_context matching shape x y; is = is; within = omega (arith, is, bound) }

-- ---- after a pixel was read, and before the next of its row

refined_still : (matching : Matching) (sketch : Sketch) (bit : Bool) (window : RefinedWindow) → IsUnread sketch →
    IsRefinedWindow matching sketch.shape (pos (column_of sketch)) (pos (row_of sketch)) window →
    IsRefinedWindow matching (with_pixel sketch bit).shape (pos (column_of sketch)) (pos (row_of sketch)) window
refined_still matching sketch bit window unread at =
    let x = pos (column_of sketch) in
    let y = pos (row_of sketch) in
    let new = (with_pixel sketch bit).shape in
    let above : (a : ℤ) → is_black sketch.shape a (y +ℤ pos 1) ≡ is_black new a (y +ℤ pos 1) =
    λ a. sym (still sketch bit a (y +ℤ pos 1) unread (λ p q. omega (arith, ints, q))) in
    record {
      above = at.above ∙ three_same (above (x -ℤ pos 1)) (above x) (above (x +ℤ pos 1));
      left = at.left ∙ sym (still sketch bit (x -ℤ pos 1) y unread (λ p q. omega (arith, ints, p)));
      over = at.over;
      beside = at.beside;
      under = at.under;
      above_ahead = run_still sketch bit (x +ℤ pos 2) (y +ℤ pos 1) window.more window.above_ahead unread (λ e. omega (arith, ints, e)) at.above_ahead;
      over_ahead = at.over_ahead;
      beside_ahead = at.beside_ahead;
      under_ahead = at.under_ahead;
    }

refined_by : (matching : Matching) (shape : Pixels) (a b x y : ℤ) (window : RefinedWindow) → a ≡ x → b ≡ y →
    IsRefinedWindow matching shape x y window → IsRefinedWindow matching shape a b window
refined_by matching shape a b x y window p q at =
    subst (λ z. IsRefinedWindow matching shape z b window) (sym p) (subst (λ z. IsRefinedWindow matching shape x z window) (sym q) at)

refined_before_of : (matching : Matching) (sketch : Sketch) (bit : Bool) (window : RefinedWindow) → IsUnread sketch →
    IsRefinedWindow matching sketch.shape (pos (column_of sketch)) (pos (row_of sketch)) window → 0 < column_of (with_pixel sketch bit) →
    IsRefinedWindow matching (with_pixel sketch bit).shape (pos (column_of (with_pixel sketch bit)) -ℤ pos 1) (pos (row_of (with_pixel sketch bit))) window
refined_before_of matching sketch true window unread at more =
    let next = next_in_row sketch.number sketch.shape.width (wide sketch.shape.width sketch.shape.height sketch.number unread) more in
    refined_by matching (with_pixel sketch true).shape (pos (column_of (with_pixel sketch true)) -ℤ pos 1) (pos (row_of (with_pixel sketch true)))
    (pos (column_of sketch)) (pos (row_of sketch)) window (omega (arith, ints, next.0)) (ap (λ n. pos (sketch.shape.height - 1 - n)) next.1)
    (refined_still matching sketch true window unread at)
refined_before_of matching sketch false window unread at more =
    let next = next_in_row sketch.number sketch.shape.width (wide sketch.shape.width sketch.shape.height sketch.number unread) more in
    refined_by matching (with_pixel sketch false).shape (pos (column_of (with_pixel sketch false)) -ℤ pos 1) (pos (row_of (with_pixel sketch false)))
    (pos (column_of sketch)) (pos (row_of sketch)) window (omega (arith, ints, next.0)) (ap (λ n. pos (sketch.shape.height - 1 - n)) next.1)
    (refined_still matching sketch false window unread at)

pub refined_before : (matching : Matching) (sketch new : Sketch) (bit : Bool) (window : RefinedWindow) → new ≡ with_pixel sketch bit → IsUnread sketch →
    IsRefinedWindow matching sketch.shape (pos (column_of sketch)) (pos (row_of sketch)) window → 0 < column_of new →
    IsRefinedWindow matching new.shape (pos (column_of new) -ℤ pos 1) (pos (row_of new)) window
refined_before matching sketch new bit window is unread at more =
    let P : Sketch → Type 0 = λ s. 0 < column_of s → IsRefinedWindow matching s.shape (pos (column_of s) -ℤ pos 1) (pos (row_of s)) window in
    subst P (sym is) (refined_before_of matching sketch bit window unread at) more
