-- Windows move right by one digit a row, and a pixel that is read isn't in its own window.
use Rattle.std.proofs.Common.{◌≡◌, ℕ, ◌+◌, ◌-◌, ◌*◌, ◌/◌, ◌%◌, ◌^◌, ◌<◌, ◌≤◌, Bool, true, false, [], ◌∷◌, ℤ, pos, ◌+ℤ◌, ◌-ℤ◌, refl, ap, sym, subst, ◌∙◌, arith}
use Rattle.std.proofs.lemmas.Int.{ints}
use Rattle.bit_plane.specs.Bits.{digit as bit_at}
use Rattle.bit_plane.specs.Pixels.{Pixels, is_black}
use Rattle.bit_plane.proofs.Lemmas.{same_place, wide}
use Rattle.jb2_shapes.specs.Shape.{Sketch, IsUnread, column_of, row_of, with_pixel, direct_context}
use Rattle.bit_plane.specs.Bits.{digit_of}
use Rattle.jb2_shapes.specs.Numbers.{number_from, number_of, number_limit, IsNumber}
use Rattle.jb2_shapes.specs.declared.windows.DirectWindow.{DirectWindow}
use Rattle.bit_plane.specs.Rows.{IsRun}
use Rattle.jb2_shapes.specs.Rows.{IsDigit, IsFirstTwo, IsFirstThree, IsFirstFive}
use Rattle.jb2_shapes.specs.Windows.{IsDirectWindow}
use Rattle.jb2_shapes.proofs.Placing.{still, next_in_row}
use Rattle.jb2_shapes.proofs.Running.{run_at, run_on, run_still}

pub digit-le : (colour : Bool) → digit_of colour ≤ 1
digit-le true = omega arith
digit-le false = omega arith

-- ---- one digit more

pub with_digit : (number before other : ℕ) (colour same : Bool) → number ≡ 2 * before + digit_of colour → before ≡ other → colour ≡ same →
    number ≡ 2 * other + digit_of same
with_digit number before other colour same e p q = e ∙ ap (λ n. 2 * n + digit_of colour) p ∙ ap (λ c. 2 * other + digit_of c) q

-- ---- numbers of two, three and five digits move on

two_right : (p q s : Bool) (old new : ℕ) → old ≡ number_from 0 (p ∷ q ∷ []) → new ≡ 2 * (old % 2) + digit_of s → new ≡ number_from 0 (q ∷ s ∷ [])
two_right p q s old new e f =
    let c = digit-le q in
    let d : old % 2 ≡ digit_of q = omega arith in
    omega arith

pub three_right : (p q r s : Bool) (old new : ℕ) → old ≡ number_from 0 (p ∷ q ∷ r ∷ []) → new ≡ 2 * (old % 4) + digit_of s →
    new ≡ number_from 0 (q ∷ r ∷ s ∷ [])
three_right p q r s old new e f =
    let c = digit-le q in
    let d = digit-le r in
    let m : old % 4 ≡ 2 * digit_of q + digit_of r = omega arith in
    omega arith

five_right : (p q r s t u : Bool) (old new : ℕ) → old ≡ number_from 0 (p ∷ q ∷ r ∷ s ∷ t ∷ []) → new ≡ 2 * (old % 16) + digit_of u →
    new ≡ number_from 0 (q ∷ r ∷ s ∷ t ∷ u ∷ [])
five_right p q r s t u old new e f =
    let a = digit-le q in
    let b = digit-le r in
    let c = digit-le s in
    let d = digit-le t in
    let m : old % 16 ≡ 8 * digit_of q + 4 * digit_of r + 2 * digit_of s + digit_of t = omega arith in
    omega arith

two_same : {p q s t : Bool} → p ≡ s → q ≡ t → number_from 0 (p ∷ q ∷ []) ≡ number_from 0 (s ∷ t ∷ [])
two_same e f = cc

pub three_same : {p q r s t u : Bool} → p ≡ s → q ≡ t → r ≡ u → number_from 0 (p ∷ q ∷ r ∷ []) ≡ number_from 0 (s ∷ t ∷ u ∷ [])
three_same e f g = cc

five_same : {a b c d e p q r s t : Bool} → a ≡ p → b ≡ q → c ≡ r → d ≡ s → e ≡ t →
    number_from 0 (a ∷ b ∷ c ∷ d ∷ e ∷ []) ≡ number_from 0 (p ∷ q ∷ r ∷ s ∷ t ∷ [])
five_same e f g h i = cc

-- ---- the window of a pixel, after the one at its left

window_right : (shape : Pixels) (x y : ℤ) (window new : DirectWindow) (far near own : Bool) →
    IsDirectWindow shape (x -ℤ pos 1) y window →
    new.far ≡ 2 * (window.far % 4) + digit_of far → new.near ≡ 2 * (window.near % 16) + digit_of near → new.own ≡ 2 * (window.own % 2) + digit_of own →
    far ≡ is_black shape (x +ℤ pos 1) (y +ℤ pos 2) → near ≡ is_black shape (x +ℤ pos 2) (y +ℤ pos 1) → own ≡ is_black shape (x -ℤ pos 1) y →
    new.far_ahead ≡ window.far_ahead / 2 ^ 1 → new.near_ahead ≡ window.near_ahead / 2 ^ 1 → new.more + 1 ≤ window.more →
    IsDirectWindow shape x y new
window_right shape x y window new far near own at p q r f n o g m less =
    let up = y +ℤ pos 1 in
    let two_up = y +ℤ pos 2 in
    let one : x -ℤ pos 1 +ℤ pos 1 ≡ x = omega (arith, ints) in
    let two : x -ℤ pos 1 +ℤ pos 2 ≡ x +ℤ pos 1 = omega (arith, ints) in
    let back : x -ℤ pos 1 -ℤ pos 1 ≡ x -ℤ pos 2 = omega (arith, ints) in
    record {
      far = three_right _ _ _ far window.far new.far at.far p ∙ ap (λ c. number_from 0 (is_black shape (x -ℤ pos 1) two_up ∷ c ∷ far ∷ [])) (ap (λ a. is_black shape a two_up) one)
          ∙ ap (λ c. number_from 0 (is_black shape (x -ℤ pos 1) two_up ∷ is_black shape x two_up ∷ c ∷ [])) f;
      near = five_right _ _ _ _ _ near window.near new.near at.near q
          ∙ ap (λ a. number_from 0 (is_black shape a up ∷ is_black shape (x -ℤ pos 1) up ∷ is_black shape (x -ℤ pos 1 +ℤ pos 1) up ∷ is_black shape (x -ℤ pos 1 +ℤ pos 2) up ∷ near ∷ [])) back
          ∙ ap (λ a. number_from 0 (is_black shape (x -ℤ pos 2) up ∷ is_black shape (x -ℤ pos 1) up ∷ is_black shape a up ∷ is_black shape (x -ℤ pos 1 +ℤ pos 2) up ∷ near ∷ [])) one
          ∙ ap (λ a. number_from 0 (is_black shape (x -ℤ pos 2) up ∷ is_black shape (x -ℤ pos 1) up ∷ is_black shape x up ∷ is_black shape a up ∷ near ∷ [])) two
          ∙ ap (λ c. number_from 0 (is_black shape (x -ℤ pos 2) up ∷ is_black shape (x -ℤ pos 1) up ∷ is_black shape x up ∷ is_black shape (x +ℤ pos 1) up ∷ c ∷ [])) n;
      own = two_right _ _ own window.own new.own at.own r
          ∙ ap (λ a. number_from 0 (is_black shape a y ∷ own ∷ [])) back ∙ ap (λ c. number_from 0 (is_black shape (x -ℤ pos 2) y ∷ c ∷ [])) o;
      far_ahead = run_on shape (x -ℤ pos 1 +ℤ pos 2) (y +ℤ pos 2) (x +ℤ pos 2) (y +ℤ pos 2) 1 window.more new.more window.far_ahead new.far_ahead
          at.far_ahead (omega arith) (omega (arith, ints)) refl g;
      near_ahead = run_on shape (x -ℤ pos 1 +ℤ pos 3) (y +ℤ pos 1) (x +ℤ pos 3) (y +ℤ pos 1) 1 window.more new.more window.near_ahead new.near_ahead
          at.near_ahead (omega arith) (omega (arith, ints)) refl m;
    }

-- of which the new colours were at hand
pub window_next : (shape : Pixels) (x y : ℤ) (window new : DirectWindow) (far near black : Bool) →
    IsDirectWindow shape (x -ℤ pos 1) y window → is_black shape (x -ℤ pos 1) y ≡ black → 0 < window.more →
    new.far ≡ 2 * (window.far % 4) + digit_of far → new.near ≡ 2 * (window.near % 16) + digit_of near → new.own ≡ 2 * (window.own % 2) + digit_of black →
    IsDigit window.far_ahead 0 far → IsDigit window.near_ahead 0 near →
    new.far_ahead ≡ window.far_ahead / 2 ^ 1 → new.near_ahead ≡ window.near_ahead / 2 ^ 1 → new.more + 1 ≡ window.more → IsDirectWindow shape x y new
window_next shape x y window new far near black at colour some p q r f n g m less =
    window_right shape x y window new far near black at p q r
    (f (is_black shape (x +ℤ pos 1) (y +ℤ pos 2))
    (run_at shape (x -ℤ pos 1 +ℤ pos 2) (y +ℤ pos 2) (x +ℤ pos 1) (y +ℤ pos 2) window.more window.far_ahead 0 at.far_ahead some (omega (arith, ints)) refl))
    (n (is_black shape (x +ℤ pos 2) (y +ℤ pos 1))
    (run_at shape (x -ℤ pos 1 +ℤ pos 3) (y +ℤ pos 1) (x +ℤ pos 2) (y +ℤ pos 1) window.more window.near_ahead 0 at.near_ahead some (omega (arith, ints)) refl))
    (sym colour) g m (omega (arith, less))

-- ---- the window of a pixel, out of words

pub window_around : (shape : Pixels) (x y : ℤ) (far near own : ℕ) (window : DirectWindow) →
    IsRun shape (x -ℤ pos 1) (y +ℤ pos 2) 64 far → IsRun shape (x -ℤ pos 2) (y +ℤ pos 1) 64 near → IsRun shape (x -ℤ pos 2) y 64 own →
    IsFirstThree far window.far → IsFirstFive near window.near → IsFirstTwo own window.own →
    window.far_ahead ≡ far / 2 ^ 3 → window.near_ahead ≡ near / 2 ^ 5 → window.more ≤ 59 → IsDirectWindow shape x y window
window_around shape x y far near own window f n o three five two g m rest =
    let up = y +ℤ pos 1 in
    let two_up = y +ℤ pos 2 in
    let of_far : (a : ℤ) (i : ℕ) → i < 64 → x -ℤ pos 1 +ℤ pos i ≡ a → bit_at far i ≡ digit_of (is_black shape a two_up) =
    λ a i p e. run_at shape (x -ℤ pos 1) two_up a two_up 64 far i f p e refl in
    let of_near : (a : ℤ) (i : ℕ) → i < 64 → x -ℤ pos 2 +ℤ pos i ≡ a → bit_at near i ≡ digit_of (is_black shape a up) =
    λ a i p e. run_at shape (x -ℤ pos 2) up a up 64 near i n p e refl in
    let of_own : (a : ℤ) (i : ℕ) → i < 64 → x -ℤ pos 2 +ℤ pos i ≡ a → bit_at own i ≡ digit_of (is_black shape a y) =
    λ a i p e. run_at shape (x -ℤ pos 2) y a y 64 own i o p e refl in
    record {
      far = three _ _ _ (of_far (x -ℤ pos 1) 0 (omega arith) (omega (arith, ints))) (of_far x 1 (omega arith) (omega (arith, ints)))
          (of_far (x +ℤ pos 1) 2 (omega arith) (omega (arith, ints)));
      near = five _ _ _ _ _ (of_near (x -ℤ pos 2) 0 (omega arith) (omega (arith, ints))) (of_near (x -ℤ pos 1) 1 (omega arith) (omega (arith, ints)))
          (of_near x 2 (omega arith) (omega (arith, ints))) (of_near (x +ℤ pos 1) 3 (omega arith) (omega (arith, ints)))
          (of_near (x +ℤ pos 2) 4 (omega arith) (omega (arith, ints)));
      own = two _ _ (of_own (x -ℤ pos 2) 0 (omega arith) (omega (arith, ints))) (of_own (x -ℤ pos 1) 1 (omega arith) (omega (arith, ints)));
      far_ahead = run_on shape (x -ℤ pos 1) two_up (x +ℤ pos 2) two_up 3 64 window.more far window.far_ahead f (omega arith) (omega (arith, ints)) refl g;
      near_ahead = run_on shape (x -ℤ pos 2) up (x +ℤ pos 3) up 5 64 window.more near window.near_ahead n (omega arith) (omega (arith, ints)) refl m;
    }

-- ---- the number of a context

pub direct_number : (shape : Pixels) (x y : ℤ) (window : DirectWindow) (number : ℕ) → IsDirectWindow shape x y window →
    number ≡ 1024 + 128 * window.far + 4 * window.near + window.own → number_of (direct_context shape x y) ≡ number
direct_number shape x y window number at e = let f = at.far in let n = at.near in let o = at.own in omega arith

number_bound : (p q r s t u v w x y : Bool) → number_of (p ∷ q ∷ r ∷ s ∷ t ∷ u ∷ v ∷ w ∷ x ∷ y ∷ []) < 4096
number_bound p q r s t u v w x y =
    omega (arith, digit-le p, digit-le q, digit-le r, digit-le s, digit-le t, digit-le u, digit-le v, digit-le w, digit-le x, digit-le y)

direct_below : (shape : Pixels) (x y : ℤ) → number_of (direct_context shape x y) < 4096
direct_below shape x y =
    number_bound
    (is_black shape (x -ℤ pos 1) (y +ℤ pos 2)) (is_black shape x (y +ℤ pos 2)) (is_black shape (x +ℤ pos 1) (y +ℤ pos 2))
    (is_black shape (x -ℤ pos 2) (y +ℤ pos 1)) (is_black shape (x -ℤ pos 1) (y +ℤ pos 1)) (is_black shape x (y +ℤ pos 1))
    (is_black shape (x +ℤ pos 1) (y +ℤ pos 1)) (is_black shape (x +ℤ pos 2) (y +ℤ pos 1))
    (is_black shape (x -ℤ pos 2) y) (is_black shape (x -ℤ pos 1) y)

pub direct_is_number : (shape : Pixels) (x y : ℤ) (window : DirectWindow) (number : ℕ) → IsDirectWindow shape x y window →
    number ≡ 1024 + 128 * window.far + 4 * window.near + window.own → IsNumber number
unfolding number_limit
direct_is_number shape x y window number at e =
    let is = direct_number shape x y window number at e in
    let bound = direct_below shape x y in
    record { colours = direct_context shape x y; is = is; within = omega (arith, is, bound) }

-- ---- a window after its pixel was read, and before the next pixel of its row

pub window_still : (sketch : Sketch) (bit : Bool) (window : DirectWindow) → IsUnread sketch →
    IsDirectWindow sketch.shape (pos (column_of sketch)) (pos (row_of sketch)) window →
    IsDirectWindow (with_pixel sketch bit).shape (pos (column_of sketch)) (pos (row_of sketch)) window
window_still sketch bit window unread at =
    let x = pos (column_of sketch) in
    let y = pos (row_of sketch) in
    let new = (with_pixel sketch bit).shape in
    let above : (a : ℤ) (n : ℕ) → is_black sketch.shape a (y +ℤ pos (n + 1)) ≡ is_black new a (y +ℤ pos (n + 1)) =
    λ a n. sym (still sketch bit a (y +ℤ pos (n + 1)) unread (λ p q. omega (arith, ints, q))) in
    let left : (n : ℕ) → is_black sketch.shape (x -ℤ pos (n + 1)) y ≡ is_black new (x -ℤ pos (n + 1)) y =
    λ n. sym (still sketch bit (x -ℤ pos (n + 1)) y unread (λ p q. omega (arith, ints, p))) in
    record {
      far = at.far ∙ three_same (above (x -ℤ pos 1) 1) (above x 1) (above (x +ℤ pos 1) 1);
      near = at.near ∙ five_same (above (x -ℤ pos 2) 0) (above (x -ℤ pos 1) 0) (above x 0) (above (x +ℤ pos 1) 0) (above (x +ℤ pos 2) 0);
      own = at.own ∙ two_same (left 1) (left 0);
      far_ahead = run_still sketch bit (x +ℤ pos 2) (y +ℤ pos 2) window.more window.far_ahead unread (λ e. omega (arith, ints, e)) at.far_ahead;
      near_ahead = run_still sketch bit (x +ℤ pos 3) (y +ℤ pos 1) window.more window.near_ahead unread (λ e. omega (arith, ints, e)) at.near_ahead;
    }

moved_by : (shape : Pixels) (a b x y : ℤ) (window : DirectWindow) → a ≡ x → b ≡ y → IsDirectWindow shape x y window → IsDirectWindow shape a b window
moved_by shape a b x y window p q at =
    subst (λ z. IsDirectWindow shape z b window) (sym p) (subst (λ z. IsDirectWindow shape x z window) (sym q) at)

before_of : (sketch : Sketch) (bit : Bool) (window : DirectWindow) → IsUnread sketch →
    IsDirectWindow sketch.shape (pos (column_of sketch)) (pos (row_of sketch)) window → 0 < column_of (with_pixel sketch bit) →
    IsDirectWindow (with_pixel sketch bit).shape (pos (column_of (with_pixel sketch bit)) -ℤ pos 1) (pos (row_of (with_pixel sketch bit))) window
before_of sketch true window unread at more =
    let next = next_in_row sketch.number sketch.shape.width (wide sketch.shape.width sketch.shape.height sketch.number unread) more in
    moved_by (with_pixel sketch true).shape (pos (column_of (with_pixel sketch true)) -ℤ pos 1) (pos (row_of (with_pixel sketch true)))
    (pos (column_of sketch)) (pos (row_of sketch)) window (omega (arith, ints, next.0)) (ap (λ n. pos (sketch.shape.height - 1 - n)) next.1)
    (window_still sketch true window unread at)
before_of sketch false window unread at more =
    let next = next_in_row sketch.number sketch.shape.width (wide sketch.shape.width sketch.shape.height sketch.number unread) more in
    moved_by (with_pixel sketch false).shape (pos (column_of (with_pixel sketch false)) -ℤ pos 1) (pos (row_of (with_pixel sketch false)))
    (pos (column_of sketch)) (pos (row_of sketch)) window (omega (arith, ints, next.0)) (ap (λ n. pos (sketch.shape.height - 1 - n)) next.1)
    (window_still sketch false window unread at)

-- where the next pixel isn't the first of its row, the window is that of the pixel at its left
pub window_before : (sketch new : Sketch) (bit : Bool) (window : DirectWindow) → new ≡ with_pixel sketch bit → IsUnread sketch →
    IsDirectWindow sketch.shape (pos (column_of sketch)) (pos (row_of sketch)) window → 0 < column_of new →
    IsDirectWindow new.shape (pos (column_of new) -ℤ pos 1) (pos (row_of new)) window
window_before sketch new bit window is unread at more =
    let P : Sketch → Type 0 = λ s. 0 < column_of s → IsDirectWindow s.shape (pos (column_of s) -ℤ pos 1) (pos (row_of s)) window in
    subst P (sym is) (before_of sketch bit window unread at) more

-- and the colour at its left is the one that was read
colour_of : (sketch : Sketch) (bit : Bool) → IsUnread sketch → is_black (with_pixel sketch bit).shape (pos (column_of sketch)) (pos (row_of sketch)) ≡ bit →
    0 < column_of (with_pixel sketch bit) →
    is_black (with_pixel sketch bit).shape (pos (column_of (with_pixel sketch bit)) -ℤ pos 1) (pos (row_of (with_pixel sketch bit))) ≡ bit
colour_of sketch true unread is more =
    let next = next_in_row sketch.number sketch.shape.width (wide sketch.shape.width sketch.shape.height sketch.number unread) more in
    same_place (with_pixel sketch true).shape (pos (column_of (with_pixel sketch true)) -ℤ pos 1) (pos (row_of (with_pixel sketch true)))
    (pos (column_of sketch)) (pos (row_of sketch)) (omega (arith, ints, next.0)) (ap (λ n. pos (sketch.shape.height - 1 - n)) next.1)
    ∙ is
colour_of sketch false unread is more =
    let next = next_in_row sketch.number sketch.shape.width (wide sketch.shape.width sketch.shape.height sketch.number unread) more in
    same_place (with_pixel sketch false).shape (pos (column_of (with_pixel sketch false)) -ℤ pos 1) (pos (row_of (with_pixel sketch false)))
    (pos (column_of sketch)) (pos (row_of sketch)) (omega (arith, ints, next.0)) (ap (λ n. pos (sketch.shape.height - 1 - n)) next.1)
    ∙ is

pub colour_before : (sketch new : Sketch) (bit : Bool) → new ≡ with_pixel sketch bit → IsUnread sketch →
    is_black new.shape (pos (column_of sketch)) (pos (row_of sketch)) ≡ bit → 0 < column_of new →
    is_black new.shape (pos (column_of new) -ℤ pos 1) (pos (row_of new)) ≡ bit
colour_before sketch new bit is unread colour more =
    let P : Sketch → Type 0 = λ s. is_black s.shape (pos (column_of sketch)) (pos (row_of sketch)) ≡ bit → 0 < column_of s →
    is_black s.shape (pos (column_of s) -ℤ pos 1) (pos (row_of s)) ≡ bit in
    subst P (sym is) (colour_of sketch bit unread) colour more
