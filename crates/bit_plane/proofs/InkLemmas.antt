-- Steps of the walks over columns and words.
use Rattle.std.proofs.Common.{◌≡◌, ℕ, suc, ◌+◌, ◌-◌, ◌*◌, ◌/◌, ◌%◌, ◌^◌, ◌<◌, ◌≤◌, inl, inr, bit_or, List, get_or, w64, arith, refl, ap, sym, ◌∙◌}
use lib.Count.{count_leading_zeros}
use Rattle.std.specs.Int.{trailing_zeros}
use Rattle.std.proofs.lemmas.Bool.{cases_lt, cases_eq}
use Rattle.std.proofs.lemmas.Nat.{pow_pos, or_lt, leading_top, le-div, div_below}
use Rattle.std.proofs.lemmas.Nat.Bits.{bit_at-trailing_zeros}
use Rattle.bit_plane.specs.Bits.{bit, digit}
use Rattle.bit_plane.specs.Columns.{IsInk, IsLeft, IsBehind, IsFirst, IsLast}
use Rattle.bit_plane.proofs.BitLemmas.{digit-lt, digit-or, digit_above, bit_of}

-- ---- the ends of a word

pub digit-zero : (i : ℕ) → digit 0 i ≡ 0
unfolding digit
digit-zero i = omega arith

-- the lowest digit that is set
pub record Lowest (n at : ℕ) : Type 0 where
  pub small : at < 64
  pub set : digit n at ≡ 1
  pub below : (i : ℕ) → i < at → digit n i ≡ 0

pub lowest : (n : ℕ) → (n ≡ 0 → ⊥) → n < 2 ^ 64 → Lowest n (trailing_zeros w64 n)
unfolding digit
lowest n some fits =
    let found = bit_at-trailing_zeros w64 n (omega arith) fits in
    record { small = found.0; set = found.1; below = found.2 }

-- the highest
record Highest (n at : ℕ) : Type 0 where
  counted : count_leading_zeros 64 n + suc at ≡ 64
  set : digit n at ≡ 1
  above : (i : ℕ) → at < i → digit n i ≡ 0

one_digit : (n at : ℕ) → 2 ^ at ≤ n → n < 2 ^ suc at → digit n at ≡ 1
unfolding digit
one_digit n at low high =
    let least = le-div 1 n (2 ^ at) (pow_pos at) (omega arith) in
    let most = div_below n (2 ^ at) 2 (pow_pos at) (omega arith) in
    omega arith

highest : (n : ℕ) → (n ≡ 0 → ⊥) → n < 2 ^ 64 → (at : ℕ) × Highest n at
highest n some fits =
    let top = leading_top 64 n (omega arith) fits in (
      top.0,
      record {
        counted = top.1;
        set = one_digit n top.0 top.2 top.3;
        above = λ i p. digit_above n (suc top.0) i top.3 (omega arith);
      },
    )

-- ---- the ends of a list of words

-- no bit of a word that is 0 is set
clear_word : (words : List ℕ) (i k : ℕ) → i / 64 ≡ k → get_or words k 0 ≡ 0 → bit words i ≡ 0
clear_word words i k at none =
    bit_of words i k (i % 64) (omega arith) (omega arith) ∙ ap (λ n. digit n (i % 64)) none ∙ digit-zero (i % 64)

pub clear_words : (words : List ℕ) → ((k : ℕ) → get_or words k 0 ≡ 0) → (i : ℕ) → bit words i ≡ 0
clear_words words none i = clear_word words i (i / 64) refl (none (i / 64))

pub first_found : (words : List ℕ) (index : ℕ) → ((k : ℕ) → k < index → get_or words k 0 ≡ 0) → (get_or words index 0 ≡ 0 → ⊥) → get_or words index 0 < 2 ^ 64 →
    IsFirst words (64 * index + trailing_zeros w64 (get_or words index 0))
first_found words index none some fits =
    let word = get_or words index 0 in
    let low = lowest word some fits in
    record {
      set = bit_of words (64 * index + trailing_zeros w64 word) index (trailing_zeros w64 word) (omega arith) low.small ∙ low.set;
      others = λ i before.
          elim (cases_lt (i / 64) index) [
            | inl earlier ↦ clear_word words i (i / 64) refl (none (i / 64) earlier)
            | inr same ↦ bit_of words i index (i % 64) (omega (arith, low.small)) (omega arith) ∙ low.below (i % 64) (omega (arith, low.small))
          ];
    }

pub last_found : (words : List ℕ) (index : ℕ) → ((k : ℕ) → index < k → get_or words k 0 ≡ 0) → (get_or words index 0 ≡ 0 → ⊥) → get_or words index 0 < 2 ^ 64 →
    IsLast words (64 * index + (63 - count_leading_zeros 64 (get_or words index 0)))
last_found words index none some fits =
    let word = get_or words index 0 in
    let high = highest word some fits in
    let at : 63 - count_leading_zeros 64 word ≡ high.0 = omega (arith, high.1.counted) in
    let small : high.0 < 64 = omega (arith, high.1.counted) in
    record {
      set = bit_of words (64 * index + (63 - count_leading_zeros 64 word)) index high.0 (omega arith) small ∙ high.1.set;
      others = λ i behind.
          elim (cases_lt index (i / 64)) [
            | inl later ↦ clear_word words i (i / 64) refl (none (i / 64) later)
            | inr same ↦ bit_of words i index (i % 64) (omega arith) (omega arith) ∙ high.1.above (i % 64) (omega arith)
          ];
    }

-- ---- columns, row by row

pub ink_none : (words : List ℕ) (width x count : ℕ) → IsInk words width x count 0 0
ink_none words width x count = record {
  below = pow_pos count;
  black = λ i p e. absurd (omega (arith, digit-zero i));
  white = λ i p e y q. absurd (omega arith);
}

pub ink_more : (words : List ℕ) (width x count y ink read : ℕ) → IsInk words width x count y ink → read < 2 ^ count →
    ((i : ℕ) → i < count → digit read i ≡ bit words (y * width + x + i)) → IsInk words width x count (y + 1) (bit_or ink read)
ink_more words width x count y ink read so fits is = record {
  below = or_lt count ink read so.below fits;
  black = λ i p e.
      elim (cases_eq (digit ink i) 1) [
        | inl was ↦ let there = so.black i p was in (there.0, omega (arith, there.1), there.2)
        | inr wasnt ↦ (y, omega arith, omega (arith, digit-or ink read i, digit-lt ink i, is i p))
      ];
  white = λ i p e b q.
      elim (cases_lt b y) [
        | inl before ↦ so.white i p (omega (arith, digit-or ink read i)) b before
        | inr here ↦
            let row : b ≡ y = omega arith in
            ap (λ n. bit words (n * width + x + i)) row ∙ sym (is i p) ∙ omega (arith, digit-or ink read i)
      ];
}

-- ---- column after column

-- the columns before x are white
pub record WhiteBefore (words : List ℕ) (width height x : ℕ) : Type 0 where
  pub white : (a y : ℕ) → a < x → y < height → bit words (y * width + a) ≡ 0

-- the columns from x on are white
pub record WhiteFrom (words : List ℕ) (width height x : ℕ) : Type 0 where
  pub white : (a y : ℕ) → x ≤ a → a < width → y < height → bit words (y * width + a) ≡ 0

-- a column of the word, by its number
column_white : (words : List ℕ) (width height x count ink a y : ℕ) → IsInk words width x count height ink → x ≤ a → a < x + count → digit ink (a - x) ≡ 0 → y < height →
    bit words (y * width + a) ≡ 0
column_white words width height x count ink a y is p q e r =
    let at : y * width + a ≡ y * width + x + (a - x) = omega arith in
    ap (bit words) at ∙ is.white (a - x) (omega arith) e y r

column_black : (words : List ℕ) (width height x count ink i : ℕ) → IsInk words width x count height ink → i < count → digit ink i ≡ 1 →
    (y : ℕ) × (y < height) × (bit words (y * width + (x + i)) ≡ 1)
column_black words width height x count ink i is p e =
    let there = is.black i p e in
    let at : there.0 * width + (x + i) ≡ there.0 * width + x + i = omega arith in
    (there.0, there.1, ap (bit words) at ∙ there.2)

-- a digit that is set is one of the columns
in_word : (ink count i : ℕ) → ink < 2 ^ count → digit ink i ≡ 1 → i < count
in_word ink count i below set =
    elim (cases_lt i count) [
      | inl within ↦ within
      | inr past ↦ absurd (omega (arith, digit_above ink count i below past))
    ]

pub left_step : (words : List ℕ) (width height x count ink : ℕ) → WhiteBefore words width height x → IsInk words width x count height ink → ink ≡ 0 →
    WhiteBefore words width height (x + count)
left_step words width height x count ink so is none = record {
  white = λ a y p q.
      elim (cases_lt a x) [
        | inl before ↦ so.white a y before q
        | inr here ↦ column_white words width height x count ink a y is here p (ap (λ n. digit n (a - x)) none ∙ digit-zero (a - x)) q
      ];
}

pub left_found : (words : List ℕ) (width height x count ink : ℕ) → WhiteBefore words width height x → IsInk words width x count height ink → (ink ≡ 0 → ⊥) → ink < 2 ^ 64 →
    x + count ≤ width → IsLeft words width height (x + trailing_zeros w64 ink)
left_found words width height x count ink so is some fits room =
    let low = lowest ink some fits in
    let within = in_word ink count (trailing_zeros w64 ink) is.below low.set in
    record {
      within = omega arith;
      white = λ a y p q.
          elim (cases_lt a x) [
            | inl before ↦ so.white a y before q
            | inr here ↦ column_white words width height x count ink a y is here (omega arith) (low.below (a - x) (omega arith)) q
          ];
      black = λ _. column_black words width height x count ink (trailing_zeros w64 ink) is within low.set;
    }

pub left_none : (words : List ℕ) (width height x : ℕ) → WhiteBefore words width height x → width ≤ x → IsLeft words width height width
left_none words width height x so past = record {
  within = omega arith;
  white = λ a y p q. so.white a y (omega arith) q;
  black = λ p. absurd (omega arith);
}

pub behind_step : (words : List ℕ) (width height x count end ink : ℕ) → end ≡ x + count → WhiteFrom words width height end → IsInk words width x count height ink → ink ≡ 0 →
    WhiteFrom words width height x
behind_step words width height x count end ink is_end so is none = record {
  white = λ a y p q r.
      elim (cases_lt a end) [
        | inl here ↦ column_white words width height x count ink a y is p (omega arith) (ap (λ n. digit n (a - x)) none ∙ digit-zero (a - x)) r
        | inr behind ↦ so.white a y behind q r
      ];
}

pub behind_found : (words : List ℕ) (width height x count end ink : ℕ) → end ≡ x + count → end ≤ width → WhiteFrom words width height end → IsInk words width x count height ink →
    (ink ≡ 0 → ⊥) → ink < 2 ^ 64 → IsBehind words width height (x + (64 - count_leading_zeros 64 ink))
behind_found words width height x count end ink is_end room so is some fits =
    let high = highest ink some fits in
    let top = high.0 in
    let at : 64 - count_leading_zeros 64 ink ≡ suc top = omega (arith, high.1.counted) in
    let within = in_word ink count top is.below high.1.set in
    record {
      within = omega arith;
      white = λ a y p q r.
          elim (cases_lt a end) [
            | inl here ↦ column_white words width height x count ink a y is (omega arith) (omega arith) (high.1.above (a - x) (omega arith)) r
            | inr behind ↦ so.white a y behind q r
          ];
      black = λ a e.
          let column : a ≡ x + top = omega arith in
          let there = column_black words width height x count ink top is within high.1.set in
          (there.0, there.1, ap (λ n. bit words (there.0 * width + n)) column ∙ there.2);
    }

pub behind_none : (words : List ℕ) (width height end : ℕ) → WhiteFrom words width height end → end ≡ 0 → IsBehind words width height 0
behind_none words width height end so at = record {
  within = omega arith;
  white = λ a y p q r. so.white a y (omega arith) q r;
  black = λ a e. absurd (omega arith);
}
