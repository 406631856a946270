-- Words of tests, and tests of so many numbers in a row.
use Rattle.std.proofs.Common.{◌≡◌, ℕ, zero, suc, ◌+◌, ◌-◌, ◌*◌, ◌/◌, ◌%◌, ◌^◌, ◌<◌, ◌≤◌, Bool, true, false, ◌||◌, ◌&&◌, List, length, get_or, set, refl, ap}
use Rattle.std.proofs.Common.{sym, ◌∙◌, subst, arith, inl, inr}
use Rattle.std.specs.Prelude.{◌==◌, not, if◌then◌else◌}
use Rattle.std.specs.Int.Count.{ones, ones_step, ones-le}
use Rattle.std.proofs.lemmas.Bool.{cases_eq}
use Rattle.std.proofs.Math.Pow.{pow_mono}
use Rattle.std.proofs.lemmas.List.{get_or-set_same, get_or-set_other}
use Rattle.std.proofs.lemmas.Bool.Decides.{nat_tests}
use Rattle.std.proofs.lemmas.Nat.{shr-shr, mod-pow-add}
use Rattle.iw44_blocks.proofs.Lemmas.{bits_below, bits_like}
use Rattle.iw44_slices.specs.Slice.{some_from, count_from}
use Rattle.iw44_blocks.specs.Words.{AreBits}

-- tests of numbers in a row, from one of them on

pub some_first : (test : ℕ → Bool) (total first : ℕ) → some_from test (total - 0) (first + 0) ≡ some_from test total first
some_first test total first =
    let all : total - 0 ≡ total = omega arith in
    let from : first + 0 ≡ first = omega arith in
    ap (λ n. some_from test n (first + 0)) all ∙ ap (some_from test total) from

unfolded : (test : ℕ → Bool) (total first place : ℕ) → place < total →
    some_from test (total - place) (first + place) ≡ (test (first + place) || some_from test (total - (place + 1)) (first + (place + 1)))
unfolded test total first place within =
    let left : total - place ≡ suc (total - (place + 1)) = omega arith in
    let next : first + place + 1 ≡ first + (place + 1) = omega arith in
    ap (λ n. some_from test n (first + place)) left ∙ ap (λ n. test (first + place) || some_from test (total - (place + 1)) n) next

pub some_here : (test : ℕ → Bool) (total first place : ℕ) → place < total → test (first + place) ≡ true → some_from test (total - place) (first + place) ≡ true
some_here test total first place within e = unfolded test total first place within
    ∙ ap (λ b. b || some_from test (total - (place + 1)) (first + (place + 1))) e

pub some_later : (test : ℕ → Bool) (total first place : ℕ) → place < total → test (first + place) ≡ false →
    some_from test (total - (place + 1)) (first + (place + 1)) ≡ some_from test (total - place) (first + place)
some_later test total first place within e =
    sym (unfolded test total first place within ∙ ap (λ b. b || some_from test (total - (place + 1)) (first + (place + 1))) e)

-- a bit before a word

lowest : (word : ℕ) (bit : Bool) → ((2 * word + (if bit then 1 else 0)) % 2 == 1) ≡ bit
lowest word true = let one : (2 * word + 1) % 2 ≡ 1 = omega arith in ap (λ n. n == 1) one
lowest word false = let none : (2 * word + 0) % 2 ≡ 0 = omega arith in ap (λ n. n == 1) none

behind : (word : ℕ) (bit : Bool) → (2 * word + (if bit then 1 else 0)) / 2 ≡ word
behind word true = omega arith
behind word false = omega arith

pub bit_before : (test : ℕ → Bool) (count from before word : ℕ) (bit : Bool) → before + 1 ≡ from → bit ≡ test before → AreBits test count from word →
    AreBits test (suc count) before (2 * word + (if bit then 1 else 0))
unfolding AreBits
bit_before test count from before word bit next is bits = (
  lowest word bit ∙ is,
  subst (λ (n : ℕ). AreBits test count n ((2 * word + (if bit then 1 else 0)) / 2)) (sym next)
      (subst (λ (w : ℕ). AreBits test count from w) (sym (behind word bit)) bits),
)

-- the first one

pub first_bit : (test : ℕ → Bool) (count from word : ℕ) → AreBits test (suc count) from word →
    ((word % 2 == 1) ≡ test from) × AreBits test count (from + 1) (word / 2)
unfolding AreBits
first_bit test count from word bits = bits

-- a word that isn't 0 has one
pub some_left : (test : ℕ → Bool) (count from word : ℕ) → AreBits test count from word → 0 < word → (n : ℕ) × (count ≡ suc n)
unfolding AreBits
some_left test zero from word bits some = absurd (omega (arith, bits))
some_left test (suc count) from word bits some = (count, refl)

pub zero_none : (test : ℕ → Bool) (count from : ℕ) → AreBits test count from 0 → some_from test count from ≡ false
unfolding AreBits
zero_none test zero from bits = refl
zero_none test (suc count) from bits = ap (λ b. b || some_from test count (from + 1)) (sym bits.0) ∙ zero_none test count (from + 1) bits.1

or_true : (a b : Bool) → b ≡ true → (a || b) ≡ true
or_true true b e = refl
or_true false b e = e

pub some_one : (test : ℕ → Bool) (count from word : ℕ) → AreBits test count from word → 0 < word → some_from test count from ≡ true
unfolding AreBits
some_one test zero from word bits some = absurd (omega (arith, bits))
some_one test (suc count) from word bits some =
    elim (cases_eq (word % 2) 1) [
      | inl odd ↦ ap (λ b. b || some_from test count (from + 1)) (sym bits.0 ∙ ap (λ n. n == 1) odd)
      | inr even ↦ or_true (test from) (some_from test count (from + 1)) (some_one test count (from + 1) (word / 2) bits.1 (omega arith))
    ]

not_zero : (word : ℕ) → 0 < word → (word == 0) ≡ false
not_zero word some = grind (arith, nat_tests)

pub some_is : (test : ℕ → Bool) (count from word : ℕ) → AreBits test count from word → some_from test count from ≡ not (word == 0)
some_is test count from word bits =
    elim (cases_eq word 0) [
      | inl none ↦ zero_none test count from (subst (λ (w : ℕ). AreBits test count from w) none bits) ∙ ap (λ w. not (w == 0)) (sym none)
      | inr some ↦ some_one test count from word bits (omega arith) ∙ ap not (sym (not_zero word (omega arith)))
    ]

digit : (word : ℕ) (test : Bool) → ((word % 2 == 1) ≡ test) → (if test then 1 else 0) ≡ word % 2
digit word test e =
    elim (cases_eq (word % 2) 1) [
      | inl odd ↦ ap (λ b. if b then 1 else 0) (sym e ∙ ap (λ n. n == 1) odd) ∙ sym odd
      | inr even ↦ let none : word % 2 ≡ 0 = omega arith in ap (λ b. if b then 1 else 0) (sym e ∙ ap (λ n. n == 1) none) ∙ sym none
    ]

-- how many bits a word has
pub ones_are : (test : ℕ → Bool) (count from word : ℕ) → AreBits test count from word → ones word ≡ count_from test count from
unfolding AreBits
ones_are test zero from word bits = omega (arith, bits, ones-le 0 word (omega (arith, bits)))
ones_are test (suc count) from word bits =
    let rest : ones (word / 2) ≡ count_from test count (from + 1) = ones_are test count (from + 1) (word / 2) bits.1 in
    let first : (if test from then 1 else 0) ≡ word % 2 = digit word (test from) bits.0 in
    omega (arith, ones_step word, rest, first)

-- a word of up to 16 bits gets one more
pub one_bit_more : (test : ℕ → Bool) (count from before word new : ℕ) (bit : Bool) → before + 1 ≡ from → count < 16 → bit ≡ test before →
    new ≡ 2 * word + (if bit then 1 else 0) →
    AreBits test count from word → AreBits test (count + 1) before new × (new < 65536)
one_bit_more test count from before word new bit next few is made bits =
    let more = bit_before test count from before word bit next is bits in
    let one : suc count ≡ count + 1 = omega arith in
    let whole : AreBits test (count + 1) before new = subst (λ (n : ℕ). AreBits test n before new) one
    (subst (λ (w : ℕ). AreBits test (suc count) before w) (sym made) more) in
    let few_bits : count + 1 ≤ 16 = omega arith in
    let high : 2 ^ (count + 1) ≤ 2 ^ 16 = pow_mono few_bits in
    let below = bits_below test (count + 1) before new whole in
    (whole, omega (arith, high, below))

-- words of several buckets

or_either : (a b c : Bool) → (a || (b || c)) ≡ ((a || b) || c)
or_either true b c = refl
or_either false b c = refl

some_joined : (test : ℕ → Bool) (m n from : ℕ) → some_from test (m + n) from ≡ (some_from test m from || some_from test n (from + m))
some_joined test zero n from =
    let all : 0 + n ≡ n = omega arith in
    let here : from ≡ from + 0 = omega arith in
    ap (λ (k : ℕ). some_from test k from) all ∙ ap (λ (k : ℕ). some_from test n k) here
some_joined test (suc m) n from =
    let all : suc m + n ≡ suc (m + n) = omega arith in
    let here : from + 1 + m ≡ from + suc m = omega arith in
    ap (λ (k : ℕ). some_from test k from) all
    ∙ (ap (λ (b : Bool). test from || b) (some_joined test m n (from + 1) ∙ ap (λ (k : ℕ). some_from test m (from + 1) || some_from test n k) here)
    ∙ or_either (test from) (some_from test m (from + 1)) (some_from test n (from + suc m)))

pub some_of_buckets : (test : ℕ → Bool) (first bucket word : ℕ) (before after : Bool) → before ≡ some_from test (16 * bucket) (16 * first) →
    after ≡ (before || not (word == 0)) → AreBits test 16 (16 * (first + bucket)) word → after ≡ some_from test (16 * (bucket + 1)) (16 * first)
some_of_buckets test first bucket word before after was now bits =
    let all : 16 * (bucket + 1) ≡ 16 * bucket + 16 = omega arith in
    let here : 16 * first + 16 * bucket ≡ 16 * (first + bucket) = omega arith in
    now ∙ (ap (λ (b : Bool). b || not (word == 0)) was
    ∙ (ap (λ (b : Bool). some_from test (16 * bucket) (16 * first) || b) (sym (some_is test 16 (16 * (first + bucket)) word bits))
    ∙ (ap (λ (k : ℕ). some_from test (16 * bucket) (16 * first) || some_from test 16 k) (sym here)
    ∙ (sym (some_joined test (16 * bucket) 16 (16 * first)) ∙ ap (λ (k : ℕ). some_from test k (16 * first)) (sym all)))))

pub words_more : (test : ℕ → Bool) (first : ℕ) (words : List ℕ) (bucket word : ℕ) → bucket < length words →
    ((k : ℕ) → k < bucket → AreBits test 16 (16 * (first + k)) (get_or words k 0)) → AreBits test 16 (16 * (first + bucket)) word →
    (k : ℕ) → k < bucket + 1 → AreBits test 16 (16 * (first + k)) (get_or (set words bucket word) k 0)
words_more test first words bucket word within earlier here k below =
    elim (cases_eq k bucket) [
      | inl same ↦
          subst (λ (n : ℕ). AreBits test 16 (16 * (first + n)) (get_or (set words bucket word) n 0)) (sym same)
          (subst (λ (w : ℕ). AreBits test 16 (16 * (first + bucket)) w) (sym (get_or-set_same words bucket word 0 within)) here)
      | inr apart ↦
          subst (λ (w : ℕ). AreBits test 16 (16 * (first + k)) w) (sym (get_or-set_other words bucket k word 0 apart)) (earlier k (omega arith))
    ]

-- words of which all bits are alike

pub all_bits : (test : ℕ → Bool) (count from word : ℕ) → word + 1 ≡ 2 ^ count → ((i : ℕ) → from ≤ i → i < from + count → test i ≡ true) →
    AreBits test count from word
unfolding AreBits
all_bits test zero from word e all = omega (arith, e)
all_bits test (suc count) from word e all =
    let odd : word % 2 ≡ 1 = omega (arith, e) in
    let half : word / 2 + 1 ≡ 2 ^ count = omega (arith, e) in (
      ap (λ n. n == 1) odd ∙ sym (all from (omega arith) (omega arith)),
      all_bits test count (from + 1) (word / 2) half
          (λ i low high. all i (omega arith) (omega arith)),
    )

-- where a word is 0, its test holds of none
pub none_of_zero : (test : ℕ → Bool) (count from i : ℕ) → AreBits test count from 0 → from ≤ i → i < from + count → test i ≡ false
unfolding AreBits
none_of_zero test zero from i bits low high = absurd (omega arith)
none_of_zero test (suc count) from i bits low high =
    elim (cases_eq i from) [
      | inl here ↦ ap test here ∙ sym bits.0
      | inr apart ↦ none_of_zero test count (from + 1) i bits.1 (omega arith) (omega arith)
    ]

pub zeros_of_none : (b : Bool) → not b ≡ false → b ≡ true
zeros_of_none true e = refl
zeros_of_none false e = sym e

turned : (b : Bool) (digit new : ℕ) → digit < 2 → digit + new ≡ 1 → (digit == 1) ≡ b → (new == 1) ≡ not b
turned b digit new low both is =
    elim (cases_eq digit 1) [
      | inl one ↦ let none : new ≡ 0 = omega arith in ap (λ n. n == 1) none ∙ ap not (sym (ap (λ n. n == 1) one) ∙ is)
      | inr zero' ↦ let none : digit ≡ 0 = omega arith in let one : new ≡ 1 = omega arith in ap (λ n. n == 1) one ∙ ap not (sym (ap (λ n. n == 1) none) ∙ is)
    ]

-- the word of all that a test doesn't hold of
pub bits_not : (test other : ℕ → Bool) (count from word new : ℕ) → AreBits test count from word → word + new + 1 ≡ 2 ^ count →
    ((i : ℕ) → other i ≡ not (test i)) → AreBits other count from new
unfolding AreBits
bits_not test other zero from word new bits all same = omega (arith, all)
bits_not test other (suc count) from word new bits all same =
    let digits : word % 2 + new % 2 ≡ 1 = omega (arith, all) in
    let rest : word / 2 + new / 2 + 1 ≡ 2 ^ count = omega (arith, all) in (
      turned (test from) (word % 2) (new % 2) (omega arith) digits bits.0 ∙ sym (same from),
      bits_not test other count (from + 1) (word / 2) (new / 2) bits.1 rest same,
    )

-- a test under one that holds
pub and_is : (used b : Bool) → used ≡ true → (used && b) ≡ b
and_is true b e = refl
and_is false b e = absurd (let wrong : false ≡ true = e in cc)

pub same_and : (used b : Bool) → used ≡ true → (used && b) ≡ not (not b)
same_and used true e = and_is used true e
same_and used false e = and_is used false e

-- the word of a test that says the same
pub bits_same : (test other : ℕ → Bool) (count from word : ℕ) → AreBits test count from word → ((i : ℕ) → other i ≡ test i) → AreBits other count from word
bits_same test other count from word bits same =
    bits_like test other count from from word bits (λ i j low high e. let one : j ≡ i = omega arith in ap other one ∙ same i)

-- some of the bits of a word

-- those from a place on
pub bits_above : (test : ℕ → Bool) (skip count from word : ℕ) → AreBits test (skip + count) from word →
    AreBits test count (from + skip) (word / 2 ^ skip)
bits_above test zero count from word bits =
    let all : 0 + count ≡ count = omega arith in
    let here : from ≡ from + 0 = omega arith in
    let whole : word ≡ word / 2 ^ 0 = omega arith in
    subst (λ (n : ℕ). AreBits test count n (word / 2 ^ 0)) here
    (subst (λ (w : ℕ). AreBits test count from w) whole (subst (λ (n : ℕ). AreBits test n from word) all bits))
bits_above test (suc skip) count from word bits =
    let all : suc skip + count ≡ suc (skip + count) = omega arith in
    let there : from + 1 + skip ≡ from + suc skip = omega arith in
    let next : 1 + skip ≡ suc skip = omega arith in
    let half : word / 2 / 2 ^ skip ≡ word / 2 ^ suc skip = shr-shr word 1 skip ∙ ap (λ (n : ℕ). word / 2 ^ n) next in
    let later = first_bit test (skip + count) from word (subst (λ (n : ℕ). AreBits test n from word) all bits) in
    subst (λ (n : ℕ). AreBits test count n (word / 2 ^ suc skip)) there
    (subst (λ (w : ℕ). AreBits test count (from + 1 + skip) w) half (bits_above test skip count (from + 1) (word / 2) later.1))

low_digit : (rest digit word : ℕ) → word ≡ rest * 2 + digit → digit < 2 → (word % 2 ≡ digit) × (rest ≡ word / 2)
low_digit rest digit word is few = (omega arith, omega arith)

-- the lowest ones
pub bits_low : (test : ℕ → Bool) (count more from word : ℕ) → AreBits test (count + more) from word → AreBits test count from (word % 2 ^ count)
unfolding AreBits
bits_low test zero more from word bits = omega arith
bits_low test (suc count) more from word bits =
    let all : suc count + more ≡ suc (count + more) = omega arith in
    let next : count + 1 ≡ suc count = omega arith in
    let here = first_bit test (count + more) from word (subst (λ (n : ℕ). AreBits test n from word) all bits) in
    let parts = low_digit (word / 2 % 2 ^ count) (word % 2) (word % 2 ^ suc count)
    (ap (λ (n : ℕ). word % 2 ^ n) (sym next) ∙ mod-pow-add word count 1) (omega arith) in (
      ap (λ (n : ℕ). n == 1) parts.0 ∙ here.0,
      subst (λ (w : ℕ). AreBits test count (from + 1) w) parts.1 (bits_low test count more (from + 1) (word / 2) here.1),
    )

-- a bucket's four parents lie in one word
pub parents_word : (test : ℕ → Bool) (bucket word four : ℕ) → AreBits test 16 (16 * (bucket / 4)) word → four ≡ word / 2 ^ (4 * (bucket % 4)) % 16 →
    AreBits test 4 (4 * bucket) four
parents_word test bucket word four bits is =
    let skip : ℕ = 4 * (bucket % 4) in
    let all : 16 ≡ skip + (4 + (12 - skip)) = omega arith in
    let there : 16 * (bucket / 4) + skip ≡ 4 * bucket = omega arith in
    let above = bits_above test skip (4 + (12 - skip)) (16 * (bucket / 4)) word
    (subst (λ (n : ℕ). AreBits test n (16 * (bucket / 4)) word) all bits) in
    let low = bits_low test 4 (12 - skip) (16 * (bucket / 4) + skip) (word / 2 ^ skip) above in
    subst (λ (n : ℕ). AreBits test 4 n four) there (subst (λ (w : ℕ). AreBits test 4 (16 * (bucket / 4) + skip) w) (sym is) low)
