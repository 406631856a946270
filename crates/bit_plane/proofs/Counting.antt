-- How many bits of words are set, and how many pixels of a plane are black.
use Rattle.std.proofs.Common.{◌≡◌, ℕ, zero, suc, ◌+◌, ◌-◌, ◌*◌, ◌/◌, ◌%◌, ◌^◌, ◌<◌, ◌≤◌, Bool, true, false, cond, ◌&&◌, eqb, ltb, List, length, get_or, count_by, arith, refl, ap, sym, ◌∙◌}
use Rattle.std.specs.List.{range_with_len}
use Rattle.std.proofs.Math.Nat.{mul_comm}
use Rattle.std.specs.Int.Count.{ones, ones_step, ones-le}
use Rattle.std.proofs.lemmas.Nat.{mod_below, div_below, div-add-mod'}
use Rattle.std.proofs.lemmas.Bool.{lt-ltb}
use Rattle.std.proofs.lemmas.List.FromFn.{fill_by_all}
use Rattle.bit_plane.specs.Bits.{bit, digit, set_count}
use Rattle.bit_plane.specs.Pixels.{Pixels, IsPlane, is_black_at, black_count, blank}
use Rattle.bit_plane.specs.Packed.{pixels_of, IsPacked}
use Rattle.bit_plane.proofs.BitLemmas.{digit-shr, bit_of, bit-lt}
use Rattle.bit_plane.proofs.PixelLemmas.{wide, whole_where}
use Rattle.bit_plane.proofs.PaintLemmas.{black_packed}
use Rattle.bit_plane.proofs.Totals.{total, total_same, total_nothing, total_joined, total_front, sum_of_map, sum_of_range}

lowest : (n : ℕ) → digit n 0 ≡ n % 2
unfolding digit
lowest n = omega arith

-- the digits of a number, one by one
pub ones_total : (k n : ℕ) → n < 2 ^ k → ones n ≡ total (digit n) k
ones_total zero n below = omega (arith, ones-le 0 n below)
ones_total (suc k) n below =
    let half : n / 2 < 2 ^ k = omega arith in
    let rest = ones_total k (n / 2) half in
    let moved = total_same (digit (n / 2)) (λ i. digit n (1 + i)) k (λ i p. digit-shr n 1 i) in
    let all = total_front (digit n) k in
    omega (arith, ones_step n, lowest n)

-- the bits of one word more
pub word_more : (words : List ℕ) (q word : ℕ) → get_or words q 0 ≡ word → word < 2 ^ 64 →
    total (bit words) (64 * (q + 1)) ≡ total (bit words) (64 * q) + ones word
word_more words q word is fits =
    let digits = total_same (λ i. bit words (64 * q + i)) (digit word) 64 (λ i p. bit_of words (64 * q + i) q i (omega arith) p ∙ ap (λ n. digit n i) is) in
    let joined = total_joined (bit words) (64 * q) 64 in
    let ends : total (bit words) (64 * (q + 1)) ≡ total (bit words) (64 * q + 64) = ap (total (bit words)) (omega arith) in
    omega (arith, ones_total 64 word fits)

-- a number below two is 1 or 0
pub as_digit : (n : ℕ) → n < 2 → cond (eqb n 1) 1 0 ≡ n
as_digit zero below = refl
as_digit (suc zero) below = refl
as_digit (suc (suc n)) below = omega arith

pub all_set : (words : List ℕ) → set_count words ≡ total (bit words) (64 * length words)
all_set words =
    sum_of_range (λ i. cond (eqb (bit words i) 1) 1 0) (64 * length words)
    ∙ total_same (λ i. cond (eqb (bit words i) 1) 1 0) (bit words) (64 * length words) (λ i p. as_digit (bit words i) (bit-lt words i))

-- no bit is set behind the last pixel, so the black pixels are as many as the bits
pub counted : (w h : ℕ) (words : List ℕ) → IsPacked w h words → set_count words ≡ black_count (pixels_of w h words)
counted w h words packed =
    let size = packed.size in
    let rest : ℕ = 64 * length words - w * h in
    let joined = total_joined (bit words) (w * h) rest in
    let none = total_nothing (λ i. bit words (w * h + i)) rest (λ i p. packed.rest (w * h + i) (omega arith)) in
    let ends : total (bit words) (64 * length words) ≡ total (bit words) (w * h + rest) = ap (total (bit words)) (omega arith) in
    let pixels = sum_of_map (λ black. cond black 1 0) (λ i. eqb (bit words (i / w * w + i % w)) 1) (w * h) in
    let same = total_same (λ i. cond (eqb (bit words (i / w * w + i % w)) 1) 1 0) (bit words) (w * h)
    (λ i p.
    let some = wide w h i p in
    ap (λ n. cond (eqb (bit words n) 1) 1 0) (div-add-mod' i w) ∙ as_digit (bit words i) (bit-lt words i)) in
    omega (arith, all_set words)

pub whole_packed : (w h : ℕ) (words : List ℕ) → IsPlane (pixels_of w h words)
whole_packed w h words = whole_where w h (λ x y. eqb (bit words (y * w + x)) 1)

-- ---- reading

pub read_digits : (w h : ℕ) (words : List ℕ) (x y count result i : ℕ) → i < count → x + count ≤ w → y < h →
    digit result i ≡ bit words (x + y * w + i) → digit result i ≡ cond (is_black_at (pixels_of w h words) (x + i) y) 1 0
read_digits w h words x y count result i below within row is =
    is ∙ ap (bit words) {x = x + y * w + i} {y = y * w + (x + i)} (omega arith)
    ∙ sym (as_digit (bit words (y * w + (x + i))) (bit-lt words (y * w + (x + i))))
    ∙ ap (λ b. cond b 1 0) (sym (black_packed w h words (x + i) y (omega arith) row))

-- ---- places

at_place : (plane : Pixels) (p : ℕ) → p < plane.width * plane.height → is_black_at plane (p % plane.width) (p / plane.width) ≡ get_or plane.black p false
at_place plane p within =
    let some = wide plane.width plane.height p within in
    let column = lt-ltb (p % plane.width) plane.width (mod_below p plane.width some) in
    let row = lt-ltb (p / plane.width) plane.height (div_below p plane.width plane.height some (omega (arith, mul_comm plane.width plane.height))) in
    ap (λ t. (t && ltb (p / plane.width) plane.height) && get_or plane.black (p / plane.width * plane.width + p % plane.width) false) column
    ∙ ap (λ t. (true && t) && get_or plane.black (p / plane.width * plane.width + p % plane.width) false) row
    ∙ ap (λ n. get_or plane.black n false) (div-add-mod' p plane.width)

-- the black pixels, counted place by place
pub black_places : (plane : Pixels) → IsPlane plane →
    black_count plane ≡ count_by (λ p. is_black_at plane (p % plane.width) (p / plane.width)) (range_with_len 0 (plane.width * plane.height))
black_places plane whole =
    let n : ℕ = plane.width * plane.height in
    let f : ℕ → Bool = λ p. get_or plane.black p false in
    ap (count_by (λ black. black)) (fill_by_all f plane.black n false whole (λ p below. refl))
    ∙ sum_of_map (λ black. cond black 1 0) f n
    ∙ sym (total_same (λ p. cond (is_black_at plane (p % plane.width) (p / plane.width)) 1 0) (λ p. cond (f p) 1 0) n (λ p below. ap (λ b. cond b 1 0) (at_place plane p below)))
    ∙ sym (sum_of_range (λ p. cond (is_black_at plane (p % plane.width) (p / plane.width)) 1 0) n)

pub blank_count : (w h : ℕ) → black_count (blank w h) ≡ 0
blank_count w h = sum_of_map (λ black. cond black 1 0) (λ i. false) (w * h) ∙ total_nothing (λ i. 0) (w * h) (λ i p. refl)
