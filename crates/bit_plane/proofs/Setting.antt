-- Bits that are set in one word or in two.
use Rattle.std.proofs.Common.{◌≡◌, ◌≢◌, ℕ, ◌+◌, ◌-◌, ◌*◌, ◌/◌, ◌%◌, ◌^◌, ◌<◌, ◌≤◌, ◌⊎◌, inl, inr, max, bit_or, List, length, get_or, set, arith, ap, sym, ◌∙◌}
use Rattle.std.proofs.lemmas.Bool.{cases_lt, cases_eq}
use Rattle.std.proofs.lemmas.List.{length-set}
use Rattle.bit_plane.specs.Bits.{bit, digit}
use Rattle.bit_plane.proofs.BitLemmas.{digit-or, digit-shr, digit_above, digit-shl_low, digit-shl_high, bit_of, bit-lt, bit-set_same, bit-set_other}

-- ---- one word

-- the words after some digits of one were set
abbrev pub or_word : List ℕ → ℕ → ℕ → List ℕ
or_word words q value = set words q (bit_or (get_or words q 0) value)

-- a bit of that word
in_word : (words : List ℕ) (q value j r : ℕ) → j ≡ q * 64 + r → r < 64 → q < length words → bit (or_word words q value) j ≡ max (bit words j) (digit value r)
in_word words q value j r e p within =
    bit-set_same words j q r _ e p within ∙ digit-or (get_or words q 0) value r ∙ ap (λ b. max b (digit value r)) (sym (bit_of words j q r e p))

-- a bit of another
in_other : (words : List ℕ) (q value j : ℕ) → j / 64 ≢ q → bit (or_word words q value) j ≡ bit words j
in_other words q value j other = bit-set_other words j q _ other

-- where none of the word's digits is set, nothing changes
in_none : (words : List ℕ) (q value j r : ℕ) → j ≡ q * 64 + r → r < 64 → q < length words → digit value r ≡ 0 → bit (or_word words q value) j ≡ bit words j
in_none words q value j r e p within none = in_word words q value j r e p within ∙ omega (arith, bit-lt words j)

-- ---- the word of the place

-- the words after the bits that fit were set from `at` on
abbrev pub or_low : List ℕ → ℕ → ℕ → List ℕ
or_low words at bits = or_word words (at / 64) (bits * 2 ^ (at % 64) % 2 ^ 64)

low_inside : (words : List ℕ) (at bits i : ℕ) → at % 64 + i < 64 → at < 64 * length words → bit (or_low words at bits) (at + i) ≡ max (bit words (at + i)) (digit bits i)
low_inside words at bits i p within =
    in_word words (at / 64) (bits * 2 ^ (at % 64) % 2 ^ 64) (at + i) (at % 64 + i) (omega arith) p (omega arith)
    ∙ ap (max (bit words (at + i))) (digit-shl_high bits (at % 64) 64 (at % 64 + i) (omega arith) p ∙ ap (digit bits) (omega arith))

low_before : (words : List ℕ) (at bits i : ℕ) → i < at → at < 64 * length words → bit (or_low words at bits) i ≡ bit words i
low_before words at bits i before within =
    elim (cases_eq (i / 64) (at / 64)) [
      | inl same ↦
          in_none words (at / 64) (bits * 2 ^ (at % 64) % 2 ^ 64) i (i % 64) (omega arith) (omega arith) (omega arith)
          (digit-shl_low bits (at % 64) 64 (i % 64) (omega arith) (omega arith))
      | inr other ↦ in_other words (at / 64) _ i other
    ]

low_behind : (words : List ℕ) (at bits count i : ℕ) → at + count ≤ i → at < 64 * length words → bits < 2 ^ count → bit (or_low words at bits) i ≡ bit words i
low_behind words at bits count i behind within below =
    elim (cases_eq (i / 64) (at / 64)) [
      | inl same ↦
          in_none words (at / 64) (bits * 2 ^ (at % 64) % 2 ^ 64) i (i % 64) (omega arith) (omega arith) (omega arith)
          (digit-shl_high bits (at % 64) 64 (i % 64) (omega arith) (omega arith) ∙ digit_above bits count (i % 64 - at % 64) below (omega arith))
      | inr other ↦ in_other words (at / 64) _ i other
    ]

-- ---- bits that fit into it

pub one_inside : (words : List ℕ) (at bits count i : ℕ) → i < count → at % 64 + count ≤ 64 → at + count ≤ 64 * length words →
    bit (or_low words at bits) (at + i) ≡ max (bit words (at + i)) (digit bits i)
one_inside words at bits count i p fit within = low_inside words at bits i (omega arith) (omega arith)

pub one_outside : (words : List ℕ) (at bits count i : ℕ) → (i < at) ⊎ (at + count ≤ i) → 0 < count → at + count ≤ 64 * length words → bits < 2 ^ count →
    bit (or_low words at bits) i ≡ bit words i
one_outside words at bits count i (inl before) some within below = low_before words at bits i before (omega arith)
one_outside words at bits count i (inr behind) some within below = low_behind words at bits count i behind (omega arith) below

-- ---- bits that go on in the next

-- the words after those that didn't fit were set too
abbrev pub or_both : List ℕ → ℕ → ℕ → List ℕ
or_both words at bits = or_word (or_low words at bits) (at / 64 + 1) (bits / 2 ^ (64 - at % 64))

low_length : (words : List ℕ) (at bits : ℕ) → length (or_low words at bits) ≡ length words
low_length words at bits = length-set words (at / 64) _

index_of : (at i : ℕ) → 64 ≤ at % 64 + i → 64 - at % 64 + (at % 64 + i - 64) ≡ i
index_of at i p = omega arith

pub two_inside : (words : List ℕ) (at bits count i : ℕ) → i < count → count ≤ 64 → 64 < at % 64 + count → at + count ≤ 64 * length words →
    bit (or_both words at bits) (at + i) ≡ max (bit words (at + i)) (digit bits i)
two_inside words at bits count i p word more within =
    elim (cases_lt (at % 64 + i) 64) [
      | inl here ↦ in_other (or_low words at bits) (at / 64 + 1) _ (at + i) (λ e. omega arith) ∙ low_inside words at bits i here (omega arith)
      | inr next ↦
          let kept = in_other words (at / 64) (bits * 2 ^ (at % 64) % 2 ^ 64) (at + i) (λ e. omega arith) in
          let source = digit-shr bits (64 - at % 64) (at % 64 + i - 64) ∙ ap (digit bits) (index_of at i next) in
          in_word (or_low words at bits) (at / 64 + 1) (bits / 2 ^ (64 - at % 64)) (at + i) (at % 64 + i - 64) (omega arith) (omega arith) (omega (arith, low_length words at bits))
          ∙ ap (λ b. max b (digit (bits / 2 ^ (64 - at % 64)) (at % 64 + i - 64))) kept
          ∙ ap (max (bit words (at + i))) source
    ]

pub two_outside : (words : List ℕ) (at bits count i : ℕ) → (i < at) ⊎ (at + count ≤ i) → count ≤ 64 → 64 < at % 64 + count → at + count ≤ 64 * length words → bits < 2 ^ count →
    bit (or_both words at bits) i ≡ bit words i
two_outside words at bits count i (inl before) word more within below =
    in_other (or_low words at bits) (at / 64 + 1) _ i (λ e. omega arith) ∙ low_before words at bits i before (omega arith)
two_outside words at bits count i (inr behind) word more within below =
    let low = low_behind words at bits count i behind (omega arith) below in
    elim (cases_eq (i / 64) (at / 64 + 1)) [
      | inl next ↦
          in_none (or_low words at bits) (at / 64 + 1) (bits / 2 ^ (64 - at % 64)) i (i % 64) (omega arith) (omega arith) (omega (arith, low_length words at bits))
          (digit-shr bits (64 - at % 64) (i % 64) ∙ digit_above bits count (64 - at % 64 + i % 64) below (omega arith))
          ∙ low
      | inr other ↦ in_other (or_low words at bits) (at / 64 + 1) _ i other ∙ low
    ]
