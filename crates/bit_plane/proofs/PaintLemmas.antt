-- What painting, setting and reading do to the pixels.
use Rattle.std.proofs.Common.{◌≡◌, ℕ, zero, suc, ◌+◌, ◌-◌, ◌*◌, ◌/◌, ◌%◌, ◌<◌, ◌≤◌, ◌⊎◌, inl, inr, max, min, Bool, true, false, ◌&&◌, ◌||◌, eqb, ltb, IsTrue, ◌↔◌, List, length, get_or, replicate, ℤ, pos, negsuc, ◌-ℤ◌, arith, refl, ap, sym, ◌∙◌}
use Rattle.std.proofs.Math.Nat.{mul_comm}
use Rattle.std.proofs.lemmas.Bool.{cases_lt, cases_eq, cases_order, le-ltb, eq-eqb, ne_eqb, or_left}
use Rattle.std.proofs.lemmas.Nat.{mul-le, same_from_place, le-div, mod_below, div-add-mod'}
use Rattle.std.proofs.lemmas.List.{get_or-replicate, get_or_past, length-replicate}
use Rattle.bit_plane.specs.declared.painting.Span.{Span}
use Rattle.bit_plane.specs.Bits.{bit, digit}
use Rattle.bit_plane.specs.Pixels.{Pixels, is_black, is_black_at, blank, with_black, painted, area_limit}
use Rattle.bit_plane.specs.Packed.{pixels_of, IsPacked}
use Rattle.bit_plane.specs.Spans.{IsSpan, Misses, Falls}
use Rattle.bit_plane.proofs.BitLemmas.{bit-lt}
use Rattle.bit_plane.proofs.PixelLemmas.{same_where, black_where}

-- ---- reading

false_and : (t : Bool) (u : Bool) → t ≡ false → (t && u) ≡ false
false_and t u e = ap (λ s. s && u) e

-- a column that the plane hasn't is white
pub white_column : (plane : Pixels) (x y : ℤ) → ((a : ℕ) → a < plane.width → x ≡ pos a → ⊥) → is_black plane x y ≡ false
white_column plane (pos x) (pos y) apart =
    elim (cases_lt x plane.width) [
      | inl within ↦ absurd (apart x within refl)
      | inr past ↦ false_and (ltb x plane.width && ltb y plane.height) (get_or plane.black (y * plane.width + x) false) (false_and (ltb x plane.width) (ltb y plane.height) (le-ltb x plane.width past))
    ]
white_column plane (pos x) (negsuc y) apart = refl
white_column plane (negsuc x) (pos y) apart = refl
white_column plane (negsuc x) (negsuc y) apart = refl

pub and_false : (t u : Bool) → u ≡ false → (t && u) ≡ false
and_false true u e = e
and_false false u e = refl

-- nor is a row
pub white_row : (plane : Pixels) (x y : ℤ) → ((b : ℕ) → b < plane.height → y ≡ pos b → ⊥) → is_black plane x y ≡ false
white_row plane (pos x) (pos y) apart =
    elim (cases_lt y plane.height) [
      | inl within ↦ absurd (apart y within refl)
      | inr past ↦ false_and (ltb x plane.width && ltb y plane.height) (get_or plane.black (y * plane.width + x) false) (and_false (ltb x plane.width) (ltb y plane.height) (le-ltb y plane.height past))
    ]
white_row plane (pos x) (negsuc y) apart = refl
white_row plane (negsuc x) (pos y) apart = refl
white_row plane (negsuc x) (negsuc y) apart = refl

pub black_natural : (plane : Pixels) (x y : ℤ) (a b : ℕ) → x ≡ pos a → y ≡ pos b → is_black plane x y ≡ is_black_at plane a b
black_natural plane x y a b p q = ap (λ z. is_black plane z y) p ∙ ap (is_black plane (pos a)) q

pub black_packed : (w h : ℕ) (words : List ℕ) (x y : ℕ) → x < w → y < h → is_black_at (pixels_of w h words) x y ≡ eqb (bit words (y * w + x)) 1
black_packed w h words x y p q = black_where w h (λ x y. eqb (bit words (y * w + x)) 1) x y p q

not_true : IsTrue false → ⊥
not_true e = cc

same_test : (result : Bool) (n : ℕ) → (IsTrue result ↔ (n ≡ 1)) → result ≡ eqb n 1
same_test true n h = sym (eq-eqb n 1 (h.0 refl))
same_test false n h = sym (ne_eqb n 1 (λ e. absurd (not_true (h.1 e))))

pub got : (w h : ℕ) (words : List ℕ) (x y : ℤ) (a b : ℕ) (result : Bool) → x ≡ pos a → y ≡ pos b → a < w → b < h →
    (IsTrue result ↔ (bit words (b * w + a) ≡ 1)) → result ≡ is_black (pixels_of w h words) x y
got w h words x y a b result p q within below told =
    same_test result (bit words (b * w + a)) told ∙ sym (black_natural (pixels_of w h words) x y a b p q ∙ black_packed w h words a b within below)

-- ---- a new plane

pub bit-replicate : (n i : ℕ) → bit (replicate n 0) i ≡ 0
unfolding bit digit
bit-replicate n i =
    let none : get_or (replicate n 0) (i / 64) 0 ≡ 0 =
    elim (cases_lt (i / 64) n) [
      | inl below ↦ get_or-replicate n (i / 64) 0 0 below
      | inr past ↦ get_or_past (replicate n 0) (i / 64) 0 (omega (arith, length-replicate n (let z : ℕ = 0 in z)))
    ] in
    ap (λ m. digit m (i % 64)) none ∙ omega arith

pub blank_packed : (w h n : ℕ) (words : List ℕ) → words ≡ replicate n 0 → pixels_of w h words ≡ blank w h
blank_packed w h n words e = same_where w h _ _ (λ x y p q. ap (λ (list : List ℕ). eqb (bit list (y * w + x)) 1) e ∙ ap (λ m. eqb m 1) (bit-replicate n (y * w + x)))

pub packed_blank : (w h n : ℕ) (words : List ℕ) → w * h ≤ area_limit → n ≡ w * h / 64 + min 1 (w * h % 64) → words ≡ replicate n 0 → IsPacked w h words
packed_blank w h n words area count e = record {
  area = area;
  size = ap length e ∙ length-replicate n 0 ∙ count;
  rest = λ i past. ap (λ (list : List ℕ). bit list i) e ∙ bit-replicate n i;
}

-- ---- room

pub enough_words : (w h : ℕ) (words : List ℕ) → IsPacked w h words → w * h ≤ 64 * length words
enough_words w h words packed = omega (arith, packed.size)

pub rows_room : (w h n : ℕ) (words : List ℕ) → IsPacked w h words → n ≤ h → n * w ≤ 64 * length words
rows_room w h n words packed fits = omega (arith, enough_words w h words packed, mul-le n w h w fits (omega arith), mul_comm w h)

pub rows_area : (w h n : ℕ) (words : List ℕ) → IsPacked w h words → n ≤ h → n * w ≤ area_limit
rows_area w h n words packed fits = omega (arith, packed.area, mul-le n w h w fits (omega arith), mul_comm w h)

-- ---- setting

either_bit : (a b : ℕ) → a < 2 → b < 2 → eqb (max a b) 1 ≡ (eqb a 1 || eqb b 1)
either_bit zero b p q = let least : max 0 b ≡ b = omega arith in ap (λ n. eqb n 1) least
either_bit (suc zero) b p q = let most : max 1 b ≡ 1 = omega arith in ap (λ n. eqb n 1) most
either_bit (suc (suc a)) b p q = absurd (omega arith)

or_comm : (s t : Bool) → (s || t) ≡ (t || s)
or_comm true true = refl
or_comm true false = refl
or_comm false true = refl
or_comm false false = refl

both : (s t : Bool) → s ≡ true → t ≡ true → (s && t) ≡ true
both s t e f = ap (λ u. u && t) e ∙ f

none_or : (s t : Bool) → s ≡ false → (s || t) ≡ t
none_or s t e = ap (λ u. u || t) e

beside : (i j : ℕ) → (i ≡ j → ⊥) → (i < j) ⊎ (j + 1 ≤ i)
beside i j apart =
    elim (cases_order i j) [
      | inl same ↦ absurd (apart same)
      | inr other ↦ elim other [ inl below ↦ inl below | inr above ↦ inr (omega arith) ]
    ]

other_place : (a b x y w : ℕ) → (b * w + a ≡ y * w + x → ⊥) → (eqb a x && eqb b y) ≡ false
other_place a b x y w apart =
    elim (cases_eq a x) [
      | inl column ↦
          elim (cases_eq b y) [
            | inl row ↦ absurd (apart (ap (λ n. n * w + a) row ∙ ap (λ n. y * w + n) column))
            | inr above ↦ and_false (eqb a x) (eqb b y) (ne_eqb b y above)
          ]
      | inr aside ↦ false_and (eqb a x) (eqb b y) (ne_eqb a x aside)
    ]

pub set_is : (w h x y : ℕ) (old new : List ℕ) → x < w → y < h →
    ((i : ℕ) → i < 1 → bit new (y * w + x + i) ≡ max (bit old (y * w + x + i)) (digit 1 i)) →
    ((i : ℕ) → (i < y * w + x) ⊎ (y * w + x + 1 ≤ i) → bit new i ≡ bit old i) →
    pixels_of w h new ≡ with_black (pixels_of w h old) x y
unfolding digit
set_is w h x y old new p q inside outside = same_where w h _ _ (λ a b left below.
    let was = black_packed w h old a b left below in
    elim (cases_eq (b * w + a) (y * w + x)) [
      | inl here ↦
          let same = same_from_place b a y x w left p here in
          let at : y * w + x + 0 ≡ b * w + a = omega arith in
          let set : bit new (b * w + a) ≡ 1 = ap (bit new) (sym at) ∙ inside 0 (omega arith) ∙ omega (arith, bit-lt old (y * w + x + 0)) in
          ap (λ n. eqb n 1) set
          ∙ sym (or_left (eqb a x && eqb b y) (is_black_at (pixels_of w h old) a b) (both (eqb a x) (eqb b y) (eq-eqb a x same.1) (eq-eqb b y same.0)))
      | inr other ↦
          let kept = outside (b * w + a) (beside (b * w + a) (y * w + x) other) in
          ap (λ n. eqb n 1) kept ∙ sym was ∙ sym (none_or (eqb a x && eqb b y) _ (other_place a b x y w other))
    ])

-- ---- painting

pub or_false : (s t : Bool) → t ≡ false → (s || t) ≡ s
or_false true t e = refl
or_false false t e = e

module _ (w h sw sh : ℕ) (old new other : List ℕ) (left bottom : ℤ) where
  abbrev Agrees : ℕ → ℕ → Type 0
  Agrees x y = eqb (bit new (y * w + x)) 1 ≡ (is_black_at (pixels_of w h old) x y || is_black (pixels_of sw sh other) (pos x -ℤ left) (pos y -ℤ bottom))

  -- where the shape has no place, the pixel stays
  agrees_apart : (x y : ℕ) → x < w → y < h → bit new (y * w + x) ≡ bit old (y * w + x) →
      is_black (pixels_of sw sh other) (pos x -ℤ left) (pos y -ℤ bottom) ≡ false → Agrees x y
  agrees_apart x y p q kept white =
      ap (λ n. eqb n 1) kept ∙ sym (black_packed w h old x y p q) ∙ sym (or_false (is_black_at (pixels_of w h old) x y) _ white)

  -- where it has one, the pixel is black if it was or if the shape's is
  agrees_hit : (x y a b : ℕ) → x < w → y < h → a < sw → b < sh → Falls left a x → Falls bottom b y →
      bit new (y * w + x) ≡ max (bit old (y * w + x)) (bit other (b * sw + a)) → Agrees x y
  agrees_hit x y a b p q r s column row set =
      ap (λ n. eqb n 1) set
      ∙ either_bit (bit old (y * w + x)) (bit other (b * sw + a)) (bit-lt old (y * w + x)) (bit-lt other (b * sw + a))
      ∙ ap (λ t. t || eqb (bit other (b * sw + a)) 1) (sym (black_packed w h old x y p q))
      ∙ ap (λ t. is_black_at (pixels_of w h old) x y || t)
      (sym (black_natural (pixels_of sw sh other) (pos x -ℤ left) (pos y -ℤ bottom) a b column row ∙ black_packed sw sh other a b r s))

  pub painted_apart_columns : Misses left sw w → ((i : ℕ) → bit new i ≡ bit old i) → pixels_of w h new ≡ painted (pixels_of w h old) (pixels_of sw sh other) left bottom
  painted_apart_columns misses same = same_where w h _ _ (λ x y p q.
      agrees_apart x y p q (same (y * w + x)) (white_column (pixels_of sw sh other) (pos x -ℤ left) (pos y -ℤ bottom) (λ a within falls. misses x a p within falls)))

  pub painted_apart_rows : Misses bottom sh h → ((i : ℕ) → bit new i ≡ bit old i) → pixels_of w h new ≡ painted (pixels_of w h old) (pixels_of sw sh other) left bottom
  painted_apart_rows misses same = same_where w h _ _ (λ x y p q.
      agrees_apart x y p q (same (y * w + x)) (white_row (pixels_of sw sh other) (pos x -ℤ left) (pos y -ℤ bottom) (λ b within falls. misses y b q within falls)))

  module _ (columns rows : Span) (of_columns : IsSpan left sw w columns) (of_rows : IsSpan bottom sh h rows)
      (inside : (y x : ℕ) → y < rows.count → x < columns.count →
      bit new ((rows.to + y) * w + (columns.to + x)) ≡ max (bit old ((rows.to + y) * w + (columns.to + x))) (bit other ((rows.from + y) * sw + (columns.from + x))))
      (outside : (y x : ℕ) → x < w → ((y < rows.to) ⊎ (rows.to + rows.count ≤ y)) ⊎ ((x < columns.to) ⊎ (columns.to + columns.count ≤ x)) →
      bit new (y * w + x) ≡ bit old (y * w + x)) where
    beside_columns : (x y : ℕ) → x < w → y < h → (x < columns.to) ⊎ (columns.to + columns.count ≤ x) → Agrees x y
    beside_columns x y p q apart =
        agrees_apart x y p q (outside y x p (inr apart))
        (white_column (pixels_of sw sh other) (pos x -ℤ left) (pos y -ℤ bottom) (λ a within falls.
        let there = of_columns.miss x a p within falls in
        elim apart [ inl before ↦ absurd (omega arith) | inr behind ↦ absurd (omega arith) ]))

    beside_rows : (x y : ℕ) → x < w → y < h → (y < rows.to) ⊎ (rows.to + rows.count ≤ y) → Agrees x y
    beside_rows x y p q apart =
        agrees_apart x y p q (outside y x p (inl apart))
        (white_row (pixels_of sw sh other) (pos x -ℤ left) (pos y -ℤ bottom) (λ b within falls.
        let there = of_rows.miss y b q within falls in
        elim apart [ inl before ↦ absurd (omega arith) | inr behind ↦ absurd (omega arith) ]))

    within_both : (x y i j : ℕ) → x < w → y < h → i < columns.count → j < rows.count → columns.to + i ≡ x → rows.to + j ≡ y → Agrees x y
    within_both x y i j p q r s column row =
        let at : (rows.to + j) * w + (columns.to + i) ≡ y * w + x = ap (λ n. n * w + (columns.to + i)) row ∙ ap (λ n. y * w + n) column in
        agrees_hit x y (columns.from + i) (rows.from + j) p q (omega (arith, of_columns.source)) (omega (arith, of_rows.source))
        (ap (λ n. pos n -ℤ left) (sym column) ∙ of_columns.hit i r)
        (ap (λ n. pos n -ℤ bottom) (sym row) ∙ of_rows.hit j s)
        (ap (bit new) (sym at) ∙ inside j i s r ∙ ap (λ n. max (bit old n) (bit other ((rows.from + j) * sw + (columns.from + i)))) at)

    agrees : (x y : ℕ) → x < w → y < h → Agrees x y
    agrees x y p q =
        elim (cases_lt x columns.to) [
          | inl before ↦ beside_columns x y p q (inl before)
          | inr from_left ↦
              elim (cases_lt x (columns.to + columns.count)) [
                | inr behind ↦ beside_columns x y p q (inr behind)
                | inl to_right ↦
                    elim (cases_lt y rows.to) [
                      | inl below ↦ beside_rows x y p q (inl below)
                      | inr from_below ↦
                          elim (cases_lt y (rows.to + rows.count)) [
                            | inr above ↦ beside_rows x y p q (inr above)
                            | inl to_above ↦ within_both x y (x - columns.to) (y - rows.to) p q (omega arith) (omega arith) (omega arith) (omega arith)
                          ]
                    ]
              ]
        ]

    pub painted_is : pixels_of w h new ≡ painted (pixels_of w h old) (pixels_of sw sh other) left bottom
    painted_is = same_where w h _ _ (λ x y p q. agrees x y p q)

    -- nothing behind the last pixel is touched
    pub packed_still : IsPacked w h old → length new ≡ length old → IsPacked w h new
    packed_still packed same = record {
      area = packed.area;
      size = same ∙ packed.size;
      rest = λ i past.
          let some : 0 < w = omega (arith, of_columns.some, of_columns.target) in
          let split : i / w * w + i % w ≡ i = div-add-mod' i w in
          let row : h ≤ i / w = le-div h i w some (omega (arith, mul_comm w h)) in
          ap (bit new) (sym split) ∙ outside (i / w) (i % w) (mod_below i w some) (inl (inr (omega (arith, of_rows.target)))) ∙ ap (bit old) split ∙ packed.rest i past;
    }
