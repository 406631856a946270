-- Words of bits, and those that go along with numbers.
use Rattle.std.proofs.Common.{◌≡◌, ◌≢◌, ℕ, zero, suc, ◌+◌, ◌-◌, ◌*◌, ◌/◌, ◌%◌, ◌^◌, ◌<◌, ◌≤◌, Bool, true, false, ℤ, pos, List, [], ◌∷◌, length, get_or, set}
use Rattle.std.proofs.Common.{replicate, refl, ap}
use Rattle.std.proofs.Common.{sym, ◌∙◌, subst, arith, inl, inr}
use Rattle.std.specs.Prelude.{◌==◌, not, if◌then◌else◌, slice_index_or, slice_set}
use Rattle.std.proofs.lemmas.Bool.{cases_eq}
use Rattle.std.proofs.lemmas.List.{get_or-set_same, get_or-set_other, get_or-replicate, length-replicate, length-set}
use Rattle.iw44_blocks.specs.Words.{AreBits, is_zero, is_some_at, is_some, HasWords}
use Rattle.iw44_blocks.specs.Plane.{Plane, IsPlane, zero_plane, blocks_along, block_count}
use Rattle.std.proofs.Math.Pow.{pow_mono}
use Rattle.std.proofs.lemmas.Bool.{false≢true}
use Rattle.std.proofs.Math.Bool.{beq}
use Rattle.std.proofs.lemmas.Bool.Decides.{nat_tests}

pub no_bits : (test : ℕ → Bool) (from : ℕ) → AreBits test 0 from 0
unfolding AreBits
no_bits test from = refl

pub bits_below : (test : ℕ → Bool) (count from word : ℕ) → AreBits test count from word → word < 2 ^ count
unfolding AreBits
bits_below test zero from word bits = omega (arith, bits)
bits_below test (suc count) from word bits = let rest : word / 2 < 2 ^ count = bits_below test count (from + 1) (word / 2) bits.1 in omega (arith, rest)

pub none_bits : (test : ℕ → Bool) (count from : ℕ) → ((i : ℕ) → from ≤ i → i < from + count → test i ≡ false) → AreBits test count from 0
unfolding AreBits
none_bits test zero from none = refl
none_bits test (suc count) from none =
    (sym (none from (omega arith) (omega arith)), none_bits test (count) (from + 1) (λ i low high. none i (omega arith) (omega arith)))

-- a word of another test that says the same, from another number on
pub bits_like : (test other : ℕ → Bool) (count from to word : ℕ) → AreBits test count from word →
    ((i j : ℕ) → from ≤ i → i < from + count → i + to ≡ j + from → other j ≡ test i) → AreBits other count to word
unfolding AreBits
bits_like test other zero from to word bits same = bits
bits_like test other (suc count) from to word bits same = (
  bits.0 ∙ sym (same from to (omega arith) (omega arith) (omega arith)),
  bits_like test other count (from + 1) (to + 1) (word / 2) bits.1
      (λ i j low high e. same i j (omega arith) (omega arith) (omega arith)),
)

even_digit : (word : ℕ) (b : Bool) → (word % 2 == 1) ≡ b → b ≡ false → word % 2 ≡ 0
even_digit word b e none =
    elim (cases_eq (word % 2) 1) [
      | inl odd ↦ absurd (false≢true (sym (e ∙ none) ∙ ap (λ (n : ℕ). n == 1) odd))
      | inr even ↦ omega arith
    ]

odd_digit : (word : ℕ) (b : Bool) → (word % 2 == 1) ≡ b → b ≡ true → word % 2 ≡ 1
odd_digit word b e some =
    elim (cases_eq (word % 2) 1) [
      | inl odd ↦ odd
      | inr even ↦ absurd (let none : word % 2 ≡ 0 = omega arith in false≢true (sym (ap (λ (n : ℕ). n == 1) none) ∙ (e ∙ some)))
    ]

-- a bit more
pub bit_added : (test other : ℕ → Bool) (place count from word : ℕ) → AreBits test count from word → place < count →
    test (from + place) ≡ false → other (from + place) ≡ true → ((i : ℕ) → i ≢ from + place → other i ≡ test i) →
    AreBits other count from (word + 2 ^ place)
unfolding AreBits
bit_added test other place zero from word bits within was now same = absurd (omega arith)
bit_added test other zero (suc count) from word bits within was now same =
    let here : from + 0 ≡ from = omega arith in
    let even : word % 2 ≡ 0 = even_digit word (test from) bits.0 (subst (λ (n : ℕ). test n ≡ false) here was) in
    let digit : (word + 1) % 2 ≡ 1 = omega arith in
    let rest : word / 2 ≡ (word + 1) / 2 = omega arith in (
      ap (λ (n : ℕ). n == 1) digit ∙ sym (subst (λ (n : ℕ). other n ≡ true) here now),
      subst (λ (w : ℕ). AreBits other count (from + 1) w) rest
          (bits_like test other count (from + 1) (from + 1) (word / 2) bits.1 (λ i j low high e. let one : i ≡ j = omega arith in
          subst (λ (n : ℕ). other n ≡ test i) one (same i (λ k. omega arith)))),
    )
bit_added test other (suc place) (suc count) from word bits within was now same =
    let here : from + suc place ≡ from + 1 + place = omega arith in
    let digit : word % 2 ≡ (word + 2 ^ suc place) % 2 = omega arith in
    let rest : word / 2 + 2 ^ place ≡ (word + 2 ^ suc place) / 2 = omega arith in (
      ap (λ (n : ℕ). n == 1) (sym digit) ∙ (bits.0 ∙ sym (same from (λ k. omega arith))),
      subst (λ (w : ℕ). AreBits other count (from + 1) w) rest
          (bit_added test other place count (from + 1) (word / 2) bits.1 (omega arith)
          (subst (λ (n : ℕ). test n ≡ false) here was) (subst (λ (n : ℕ). other n ≡ true) here now) (λ i apart. same i (λ k. apart (k ∙ here)))),
    )

-- a bit less
pub bit_removed : (test other : ℕ → Bool) (place count from word : ℕ) → AreBits test count from word → place < count →
    test (from + place) ≡ true → other (from + place) ≡ false → ((i : ℕ) → i ≢ from + place → other i ≡ test i) →
    (2 ^ place ≤ word) × AreBits other count from (word - 2 ^ place)
unfolding AreBits
bit_removed test other place zero from word bits within was now same = absurd (omega arith)
bit_removed test other zero (suc count) from word bits within was now same =
    let here : from + 0 ≡ from = omega arith in
    let odd : word % 2 ≡ 1 = odd_digit word (test from) bits.0 (subst (λ (n : ℕ). test n ≡ true) here was) in
    let digit : (word - 1) % 2 ≡ 0 = omega arith in
    let rest : word / 2 ≡ (word - 1) / 2 = omega arith in (
      omega arith,
      (
        ap (λ (n : ℕ). n == 1) digit ∙ sym (subst (λ (n : ℕ). other n ≡ false) here now),
        subst (λ (w : ℕ). AreBits other count (from + 1) w) rest
            (bits_like test other count (from + 1) (from + 1) (word / 2) bits.1 (λ i j low high e. let one : i ≡ j = omega arith in
            subst (λ (n : ℕ). other n ≡ test i) one (same i (λ k. omega arith)))),
      ),
    )
bit_removed test other (suc place) (suc count) from word bits within was now same =
    let here : from + suc place ≡ from + 1 + place = omega arith in
    let less = bit_removed test other place count (from + 1) (word / 2) bits.1 (omega arith)
    (subst (λ (n : ℕ). test n ≡ true) here was) (subst (λ (n : ℕ). other n ≡ false) here now) (λ i apart. same i (λ k. apart (k ∙ here))) in
    let enough : 2 ^ place ≤ word / 2 = less.0 in
    let digit : word % 2 ≡ (word - 2 ^ suc place) % 2 = omega arith in
    let rest : word / 2 - 2 ^ place ≡ (word - 2 ^ suc place) / 2 = omega arith in (
      omega arith,
      (
        ap (λ (n : ℕ). n == 1) (sym digit) ∙ (bits.0 ∙ sym (same from (λ k. omega arith))),
        subst (λ (w : ℕ). AreBits other count (from + 1) w) rest less.1,
      ),
    )

-- another number at a place leaves all others
others : (numbers : List ℤ) (place : ℕ) (value : ℤ) (i : ℕ) → i ≢ place → is_some_at (set numbers place value) i ≡ is_some_at numbers i
others numbers place value i apart = ap (λ (v : ℤ). not (is_zero v)) (get_or-set_other numbers place i value (pos 0) apart)

there : (numbers : List ℤ) (place : ℕ) (value : ℤ) → place < length numbers → is_some_at (set numbers place value) place ≡ not (is_zero value)
there numbers place value within = ap (λ (v : ℤ). not (is_zero v)) (get_or-set_same numbers place value (pos 0) within)

-- a word whose number was 0 as before, or not as before
pub bit_kept : (test other : ℕ → Bool) (place count from word : ℕ) (b : Bool) → AreBits test count from word → test (from + place) ≡ b →
    other (from + place) ≡ b → ((i : ℕ) → i ≢ from + place → other i ≡ test i) → AreBits other count from word
bit_kept test other place count from word b bits was now same =
    bits_like test other count from from word bits (λ i j low high e.
    let one : i ≡ j = omega arith in
    subst (λ (n : ℕ). other n ≡ test i) one (elim (cases_eq i (from + place)) [
      | inl here ↦ ap other here ∙ (now ∙ (sym was ∙ ap test (sym here)))
      | inr apart ↦ same i apart
    ]))

-- room for the bit
pub room : (test : ℕ → Bool) (place word : ℕ) → AreBits test 16 0 word → place < 16 → test place ≡ false → word + 2 ^ place < 65536
room test place word bits within was =
    let none : 0 + place ≡ place = omega arith in
    let other : ℕ → Bool = λ i. if i == place then true else test i in
    bits_below other 16 0 (word + 2 ^ place) (bit_added test other place 16 0 word bits within (subst (λ (n : ℕ). test n ≡ false) (sym none) was)
    (grind (arith, nat_tests)) (λ i apart. grind (arith, nat_tests)))

pub enough : (test : ℕ → Bool) (place word : ℕ) → AreBits test 16 0 word → place < 16 → test place ≡ true → 2 ^ place ≤ word
enough test place word bits within was =
    let none : 0 + place ≡ place = omega arith in
    let other : ℕ → Bool = λ i. if i == place then false else test i in
    (bit_removed test other place 16 0 word bits within (subst (λ (n : ℕ). test n ≡ true) (sym none) was)
    (grind (arith, nat_tests)) (λ i apart. grind (arith, nat_tests))).0

pub one_bit : (place : ℕ) → place < 16 → 1 * 2 ^ place % 65536 ≡ 2 ^ place
one_bit place within =
    let few : place ≤ 15 = omega arith in
    let high : 2 ^ place ≤ 2 ^ 15 = pow_mono few in
    omega (arith, high)

-- new words
pub new_words : (count : ℕ) (numbers : List ℤ) (words : List ℕ) → numbers ≡ replicate (16 * count) (pos 0) → words ≡ replicate count 0 → HasWords numbers words
new_words count numbers words all none =
    let size : length numbers ≡ 16 * count = ap length all ∙ length-replicate (16 * count) (pos 0) in
    let few : length words ≡ count = ap length none ∙ length-replicate count (let z : ℕ = 0 in z) in
    record {
      count = omega (arith, size, few);
      bits = λ k less. subst (λ (w : ℕ). AreBits (is_some_at numbers) 16 (16 * k) w)
          (sym (ap (λ (l : List ℕ). slice_index_or l k 0) none ∙ get_or-replicate count k 0 0 (omega (arith, few))))
          (none_bits (is_some_at numbers) 16 (16 * k) (λ i low high.
          ap (λ (l : List ℤ). is_some_at l i) all
          ∙ ap (λ (v : ℤ). not (is_zero v)) (get_or-replicate (16 * count) i (pos 0) (pos 0) (omega (arith, few)))));
    }

-- the bits of a block's word
pub word_of_block : (numbers : List ℤ) (words : List ℕ) (plane : Plane) (block bucket word : ℕ) → HasWords numbers words → numbers ≡ plane.numbers →
    64 * block + bucket < length words → word ≡ slice_index_or words (64 * block + bucket) 0 → AreBits (is_some plane block) 16 (16 * bucket) word
word_of_block numbers words plane block bucket word has same within is =
    subst (λ (w : ℕ). AreBits (is_some plane block) 16 (16 * bucket) w) (sym is)
    (bits_like (is_some_at numbers) (is_some plane block) 16 (16 * (64 * block + bucket)) (16 * bucket) (slice_index_or words (64 * block + bucket) 0)
    (has.bits (64 * block + bucket) within) (λ i j low high e.
    let there : 1024 * block + j ≡ i = omega arith in
    ap (λ (n : ℕ). not (is_zero (slice_index_or plane.numbers n (pos 0)))) there
    ∙ ap (λ (l : List ℤ). not (is_zero (slice_index_or l i (pos 0)))) (sym same)))

-- the bits of a word, and the place of a number in it
pub word_at : (numbers : List ℤ) (words : List ℕ) (place : ℕ) → HasWords numbers words → place < length numbers →
    AreBits (is_some_at numbers) 16 (16 * (place / 16)) (slice_index_or words (place / 16) 0)
word_at numbers words place has within = has.bits (place / 16) (let count = has.count in omega arith)

pub word_from_0 : (numbers : List ℤ) (words : List ℕ) (place : ℕ) → HasWords numbers words → place < length numbers →
    (test : ℕ → Bool) × (AreBits test 16 0 (slice_index_or words (place / 16) 0) × (test (place % 16) ≡ is_some_at numbers place))
word_from_0 numbers words place has within =
    let test : ℕ → Bool = λ i. is_some_at numbers (16 * (place / 16) + i) in
    let here : 16 * (place / 16) + place % 16 ≡ place = omega arith in (
      test,
      (
        bits_like (is_some_at numbers) test 16 (16 * (place / 16)) 0 (slice_index_or words (place / 16) 0) (word_at numbers words place has within)
            (λ i j low high e. let one : 16 * (place / 16) + j ≡ i = omega arith in ap (is_some_at numbers) one),
        ap (is_some_at numbers) here,
      ),
    )

-- one number and its word have changed
pub words_with : (numbers : List ℤ) (words : List ℕ) (place word : ℕ) (value : ℤ) → HasWords numbers words → place < length numbers →
    ((test other : ℕ → Bool) (from : ℕ) → AreBits test 16 from (slice_index_or words (place / 16) 0) → test (from + place % 16) ≡ is_some_at numbers place →
    other (from + place % 16) ≡ not (is_zero value) → ((i : ℕ) → i ≢ from + place % 16 → other i ≡ test i) → AreBits other 16 from word) →
    HasWords (slice_set numbers place value) (slice_set words (place / 16) word)
words_with numbers words place word value has within step =
    let after : List ℤ = set numbers place value in
    let here : 16 * (place / 16) + place % 16 ≡ place = omega arith in
    let count = has.count in
    let low : place / 16 < length words = omega arith in
    let changed : AreBits (is_some_at after) 16 (16 * (place / 16)) word =
    step (is_some_at numbers) (is_some_at after) (16 * (place / 16)) (word_at numbers words place has within) (ap (is_some_at numbers) here)
    (ap (is_some_at after) here ∙ there numbers place value within) (λ i apart. others numbers place value i (λ k. apart (k ∙ sym here))) in
    record {
      count = ap (λ (n : ℕ). 16 * n) (length-set words (place / 16) word) ∙ (count ∙ sym (length-set numbers place value));
      bits = λ k less. elim (cases_eq k (place / 16)) [
        | inl same ↦ subst (λ (n : ℕ). AreBits (is_some_at after) 16 (16 * n) (get_or (set words (place / 16) word) n 0)) (sym same)
            (subst (λ (w : ℕ). AreBits (is_some_at after) 16 (16 * (place / 16)) w) (sym (get_or-set_same words (place / 16) word 0 low)) changed)
        | inr apart ↦ subst (λ (w : ℕ). AreBits (is_some_at after) 16 (16 * k) w) (sym (get_or-set_other words (place / 16) k word 0 apart))
            (bits_like (is_some_at numbers) (is_some_at after) 16 (16 * k) (16 * k) (get_or words k 0)
            (has.bits k (subst (λ (n : ℕ). k < n) (length-set words (place / 16) word) less))
            (λ i j below high e. let one : i ≡ j = omega arith in
            subst (λ (n : ℕ). is_some_at after n ≡ is_some_at numbers i) one (others numbers place value i (λ k. omega arith))))
      ];
    }

pub zero_valid : (width height : ℕ) (numbers : List ℤ) → 1 ≤ width * height → width * height ≤ 2 ^ 24 → numbers ≡ (zero_plane width height).numbers →
    IsPlane (record { width = width; height = height; numbers = numbers })
zero_valid width height numbers some fits all =
    record { some = some; fits = fits; full = ap length all ∙ length-replicate (1024 * (blocks_along width * blocks_along height)) (pos 0) }

-- a block's words are there
pub word_within : (numbers : List ℤ) (words : List ℕ) (plane : Plane) (block bucket : ℕ) →
    length numbers ≡ 1024 * block_count plane → HasWords numbers words → block < block_count plane → bucket < 64 →
    64 * block + bucket < length words
word_within numbers words plane block bucket full has low small = let count = has.count in omega arith

-- what stands for a number that isn't there is of no meaning where all are
pub or_any : (words : List ℕ) (place a b : ℕ) → place < length words → slice_index_or words place a ≡ slice_index_or words place b
or_any [] place a b within = absurd (omega arith)
or_any (x ∷ rest) zero a b within = refl
or_any (x ∷ rest) (suc place) a b within = or_any rest place a b (omega arith)

-- two tests that differ, of which one is known
pub differs_from_true : (a b : Bool) → beq a b ≡ false → a ≡ true → b ≡ false
differs_from_true true true apart is = absurd (false≢true (sym apart))
differs_from_true true false apart is = refl
differs_from_true false b apart is = absurd (false≢true is)

pub differs_from_false : (a b : Bool) → beq a b ≡ false → a ≡ false → b ≡ true
differs_from_false false true apart is = refl
differs_from_false false false apart is = absurd (false≢true (sym apart))
differs_from_false true b apart is = absurd (false≢true (sym is))

pub same_if_equal : (a b : Bool) → beq a b ≡ true → a ≡ b
same_if_equal true true same = refl
same_if_equal false false same = refl
same_if_equal true false same = absurd (false≢true same)
same_if_equal false true same = absurd (false≢true same)

-- a block's numbers are there
pub place_within : (numbers : List ℤ) (plane : Plane) (block index : ℕ) → length numbers ≡ 1024 * block_count plane → block < block_count plane → index < 1024 →
    1024 * block + index < length numbers
place_within numbers plane block index full low small = omega arith

pub any_number : (numbers : List ℤ) (place : ℕ) (a b : ℤ) → place < length numbers → slice_index_or numbers place a ≡ slice_index_or numbers place b
any_number [] place a b within = absurd (omega arith)
any_number (x ∷ rest) zero a b within = refl
any_number (x ∷ rest) (suc place) a b within = any_number rest place a b (omega arith)

pub word_low : (numbers : List ℤ) (words : List ℕ) (place : ℕ) → HasWords numbers words → place < length numbers → place / 16 < length words
word_low numbers words place has within = let count = has.count in omega arith
