-- Pixels at hand: what they are where a word was cut or moved on, and that a pixel that is read leaves them.
use Rattle.std.proofs.Common.{◌≡◌, ℕ, ◌+◌, ◌/◌, ◌^◌, ◌<◌, ◌≤◌, bit_and, Bool, true, false, eqb, ℤ, pos, ◌+ℤ◌, refl, ap, sym, ◌∙◌, arith}
use Rattle.std.proofs.lemmas.Int.{ints}
use Rattle.std.proofs.lemmas.Nat.Bits.{shr_and_one}
use Rattle.bit_plane.specs.Bits.{digit as bit_at}
use Rattle.bit_plane.specs.Pixels.{Pixels, is_black}
use Rattle.bit_plane.specs.Rows.{IsRun}
use Rattle.bit_plane.proofs.Lemmas.{digit-shr, same_place}
use Rattle.bit_plane.specs.Bits.{digit_of}
use Rattle.jb2_shapes.specs.Shape.{Sketch, IsUnread, row_of, with_pixel}
use Rattle.jb2_shapes.proofs.Placing.{still}

-- ---- colours of digits

one_is : (colour : Bool) → eqb (digit_of colour) 1 ≡ colour
one_is true = refl
one_is false = refl

-- whether a digit is 1
pub set_is : (word at : ℕ) (colour : Bool) → bit_at word at ≡ digit_of colour → eqb (bit_and (word / 2 ^ at) 1) 1 ≡ colour
unfolding bit_at
set_is word at colour e = ap (λ n. eqb n 1) (shr_and_one word at ∙ e) ∙ one_is colour

-- ---- pixels at hand

-- the colour of one of them
pub run_at : (shape : Pixels) (x y a b : ℤ) (count word i : ℕ) → IsRun shape x y count word → i < count → x +ℤ pos i ≡ a → y ≡ b →
    bit_at word i ≡ digit_of (is_black shape a b)
run_at shape x y a b count word i run p e f = run i p ∙ ap digit_of (same_place shape (x +ℤ pos i) y a b e f)

-- those that are left behind some
pub run_on : (shape : Pixels) (x y a b : ℤ) (k count more word new : ℕ) → IsRun shape x y count word → k + more ≤ count →
    x +ℤ pos k ≡ a → y ≡ b → new ≡ word / 2 ^ k → IsRun shape a b more new
run_on shape x y a b k count more word new run room e f is i p =
    ap (λ w. bit_at w i) is
    ∙ digit-shr word k i
    ∙ run (k + i) (omega arith)
    ∙ ap digit_of (same_place shape (x +ℤ pos (k + i)) y (a +ℤ pos i) b (omega (arith, ints, e)) f)

-- a pixel of another row was read
pub run_still : (sketch : Sketch) (bit : Bool) (x y : ℤ) (count word : ℕ) → IsUnread sketch → (y ≡ pos (row_of sketch) → ⊥) →
    IsRun sketch.shape x y count word → IsRun (with_pixel sketch bit).shape x y count word
run_still sketch bit x y count word unread other run i p = run i p ∙ ap digit_of (sym (still sketch bit (x +ℤ pos i) y unread (λ e f. other f)))
