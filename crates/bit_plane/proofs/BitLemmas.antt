-- Digits of numbers after shifts and masks, and bits of words.
use Rattle.std.proofs.Common.{◌≡◌, ◌≢◌, ℕ, ◌+◌, ◌-◌, ◌*◌, ◌/◌, ◌%◌, ◌^◌, ◌<◌, ◌≤◌, inl, inr, max, min, bit_and, bit_or, List, length, get_or, set, arith, ap, sym, ◌∙◌}
use Rattle.std.proofs.lemmas.Bool.{cases_lt}
use Rattle.std.proofs.lemmas.Nat.{shr-shr, and_le_r, pow_pos, shr_split}
use Rattle.std.proofs.lemmas.Nat.Bits.{bit_at_or, bit_at_and, bit_at-lt, bit_at_ones, bit_at_above, bit_at_cat_low, bit_at_cat_high, ones_shr}
use Rattle.std.proofs.lemmas.List.{get_or-set_same, get_or-set_other}
use Rattle.bit_plane.specs.Bits.{bit, digit}

pub digit-lt : (n i : ℕ) → digit n i < 2
unfolding digit
digit-lt n i = bit_at-lt n i

pub digit-or : (a b i : ℕ) → digit (bit_or a b) i ≡ max (digit a i) (digit b i)
unfolding digit
digit-or a b i = bit_at_or a b i

pub digit-and : (a b i : ℕ) → digit (bit_and a b) i ≡ min (digit a i) (digit b i)
unfolding digit
digit-and a b i = bit_at_and a b i

pub digit-shr : (a k i : ℕ) → digit (a / 2 ^ k) i ≡ digit a (k + i)
unfolding digit
digit-shr a k i = ap (λ n. n % 2) (shr-shr a k i)

pub digit_above : (n k i : ℕ) → n < 2 ^ k → k ≤ i → digit n i ≡ 0
unfolding digit
digit_above n k i p q = bit_at_above n k i p q

pub digit_ones : (k i : ℕ) → i < k → digit (2 ^ k - 1) i ≡ 1
unfolding digit
digit_ones k i p = bit_at_ones k i p

-- a number's low digits are those of its remainder
digit-mod : (n k i : ℕ) → i < k → digit (n % 2 ^ k) i ≡ digit n i
unfolding digit
digit-mod n k i p = sym (ap (λ m. m / 2 ^ i % 2) (sym (shr_split n k)) ∙ bit_at_cat_low (n / 2 ^ k) k (n % 2 ^ k) i p)

digit_shifted_low : (a k i : ℕ) → i < k → digit (a * 2 ^ k) i ≡ 0
unfolding digit
digit_shifted_low a k i p = ap (λ m. m / 2 ^ i % 2) (omega arith) ∙ bit_at_cat_low a k 0 i p ∙ omega arith

digit_shifted_high : (a k i : ℕ) → k ≤ i → digit (a * 2 ^ k) i ≡ digit a (i - k)
unfolding digit
digit_shifted_high a k i p = ap (λ m. m / 2 ^ i % 2) (omega arith) ∙ bit_at_cat_high a k 0 i (pow_pos k) p

pub digit-shl_low : (a k w i : ℕ) → i < k → i < w → digit (a * 2 ^ k % 2 ^ w) i ≡ 0
digit-shl_low a k w i p q = digit-mod (a * 2 ^ k) w i q ∙ digit_shifted_low a k i p

pub digit-shl_high : (a k w i : ℕ) → k ≤ i → i < w → digit (a * 2 ^ k % 2 ^ w) i ≡ digit a (i - k)
digit-shl_high a k w i p q = digit-mod (a * 2 ^ k) w i q ∙ digit_shifted_high a k i p

-- the mask of the low digits: so many ones
pub low_mask : (w c : ℕ) → c ≤ w → (2 ^ w - 1) / 2 ^ (w - c) ≡ 2 ^ c - 1
low_mask w c p = let less : w - c ≤ w = omega arith in ones_shr w (w - c) less ∙ ap (λ k. 2 ^ k - 1) (omega arith)

pub masked_below : (n w c : ℕ) → c ≤ w → bit_and n ((2 ^ w - 1) / 2 ^ (w - c)) < 2 ^ c
masked_below n w c p = omega (arith, low_mask w c p, and_le_r n ((2 ^ w - 1) / 2 ^ (w - c)), pow_pos c)

pub digit_masked : (n w c i : ℕ) → c ≤ w → i < c → digit (bit_and n ((2 ^ w - 1) / 2 ^ (w - c))) i ≡ digit n i
digit_masked n w c i p q =
    let is_one = ap (λ m. digit m i) (low_mask w c p) ∙ digit_ones c i q in
    omega (arith, digit-and n ((2 ^ w - 1) / 2 ^ (w - c)) i, is_one, digit-lt n i)

-- ---- bits of words

pub bit_of : (words : List ℕ) (j q r : ℕ) → j ≡ q * 64 + r → r < 64 → bit words j ≡ digit (get_or words q 0) r
unfolding bit
bit_of words j q r e p =
    let quotient : j / 64 ≡ q = omega arith in
    let rest : j % 64 ≡ r = omega arith in
    ap (λ k. digit (get_or words k 0) (j % 64)) quotient ∙ ap (digit (get_or words q 0)) rest

pub bit-lt : (words : List ℕ) (j : ℕ) → bit words j < 2
unfolding bit
bit-lt words j = digit-lt _ _

pub bit-set_same : (words : List ℕ) (j q r v : ℕ) → j ≡ q * 64 + r → r < 64 → q < length words → bit (set words q v) j ≡ digit v r
bit-set_same words j q r v e p within = bit_of (set words q v) j q r e p ∙ ap (λ n. digit n r) (get_or-set_same words q v 0 within)

pub bit-set_other : (words : List ℕ) (j q v : ℕ) → j / 64 ≢ q → bit (set words q v) j ≡ bit words j
unfolding bit
bit-set_other words j q v other = ap (λ n. digit n (j % 64)) (get_or-set_other words q (j / 64) v 0 other)

-- ---- reading

abbrev read_mask : ℕ → ℕ
read_mask count = (2 ^ 64 - 1) / 2 ^ (64 - count)

pub read_one : (words : List ℕ) (at count i : ℕ) → count ≤ 64 → i < count → at % 64 + count ≤ 64 →
    digit (bit_and (get_or words (at / 64) 0 / 2 ^ (at % 64)) (read_mask count)) i ≡ bit words (at + i)
read_one words at count i p q room =
    let first = get_or words (at / 64) 0 in
    digit_masked (first / 2 ^ (at % 64)) 64 count i p q
    ∙ digit-shr first (at % 64) i
    ∙ sym (bit_of words (at + i) (at / 64) (at % 64 + i) (omega arith) (omega arith))

pub read_two : (words : List ℕ) (at count i : ℕ) → count ≤ 64 → i < count → 64 < at % 64 + count → get_or words (at / 64) 0 < 2 ^ 64 →
    digit (bit_and (bit_or (get_or words (at / 64) 0 / 2 ^ (at % 64)) (get_or words (at / 64 + 1) 0 * 2 ^ (64 - at % 64) % 2 ^ 64)) (read_mask count)) i ≡ bit words (at + i)
read_two words at count i p q more fits =
    let first = get_or words (at / 64) 0 in
    let second = get_or words (at / 64 + 1) 0 in
    let shift = 64 - at % 64 in
    let low = first / 2 ^ (at % 64) in
    let high = second * 2 ^ shift % 2 ^ 64 in
    let read = digit_masked (bit_or low high) 64 count i p q in
    let both = digit-or low high i in
    let of_low = digit-shr first (at % 64) i in
    elim (cases_lt (at % 64 + i) 64) [
      | inl below ↦
          let of_high = digit-shl_low second shift 64 i (omega arith) (omega arith) in
          let is = bit_of words (at + i) (at / 64) (at % 64 + i) (omega arith) below in
          omega arith
      | inr past ↦
          let none = digit_above first 64 (at % 64 + i) fits past in
          let of_high = digit-shl_high second shift 64 i (omega arith) (omega arith) in
          let same = ap (digit second) {x = i - shift} {y = at % 64 + i - 64} (omega arith) in
          let is = bit_of words (at + i) (at / 64 + 1) (at % 64 + i - 64) (omega arith) (omega arith) in
          omega arith
    ]
