-- Numbers of contexts: no two have the same, and what a written cell means.
use Rattle.std.proofs.Common.{◌≡◌, ◌≢◌, ℕ, ◌+◌, ◌*◌, ◌<◌, ◌≤◌, Bool, true, false, List, [], ◌∷◌, length, get_or, set, replicate, refl, ap, sym, ◌∙◌, arith, inl, inr}
use Rattle.std.proofs.Math.Path.{fun_ext}
use Rattle.std.proofs.lemmas.Bool.{cases_Bool, cases_lt}
use Rattle.std.proofs.lemmas.List.{get_or-set_same, get_or-set_other, get_or-replicate, get_or_past, get_or_read_under, length-replicate}
use Rattle.zp_decoder.specs.States.{States, fresh, are_same, with_state}
use Rattle.zp_decoder.proofs.Lemmas.{are_same-true, are_same-refl, stored_here, stored_elsewhere}
use Rattle.bit_plane.specs.Bits.{digit_of}
use Rattle.jb2_shapes.specs.Numbers.{Cells, number_from, number_of, number_limit, states_of}

-- further digits leave a number at least as large
grows : (colours : List Bool) (number : ℕ) → number ≤ number_from number colours
grows [] number = omega arith
grows (true ∷ colours) number = let later = grows colours (2 * number + 1) in omega arith
grows (false ∷ colours) number = let later = grows colours (2 * number + 0) in omega arith

digit-step : (x y : Bool) (m n : ℕ) → 2 * m + digit_of x ≡ 2 * n + digit_of y → (m ≡ n) × (x ≡ y)
digit-step true true m n e = (omega arith, refl)
digit-step true false m n e = absurd (omega arith)
digit-step false true m n e = absurd (omega arith)
digit-step false false m n e = (omega arith, refl)

-- numbers with as many further digits are equal only where all digits are
same_length : (a b : List Bool) (m n : ℕ) → length a ≡ length b → number_from m a ≡ number_from n b → (m ≡ n) × (a ≡ b)
same_length [] [] m n p e = (e, refl)
same_length [] (y ∷ b) m n p e = absurd (omega arith)
same_length (x ∷ a) [] m n p e = absurd (omega arith)
same_length (x ∷ a) (y ∷ b) m n p e =
    let rest = same_length a b (2 * m + digit_of x) (2 * n + digit_of y) (omega arith) e in
    let first = digit-step x y m n rest.0 in
    (first.0, let at : x ≡ y = first.1 in let later : a ≡ b = rest.1 in cc)

longer : (a b : List Bool) (m n : ℕ) → m < 2 * n → length a < length b → number_from m a ≡ number_from n b → ⊥
longer a [] m n p q e = omega arith
longer a (y ∷ b) m n p q e =
    elim (cases_lt (length a) (length b)) [
      | inl less ↦ longer a b m (2 * n + digit_of y) (omega arith) less e
      | inr more ↦ let first = (same_length a b m (2 * n + digit_of y) (omega arith) e).0 in omega arith
    ]

pub number-injective : (a b : List Bool) → number_of a ≡ number_of b → a ≡ b
number-injective a b e =
    elim (cases_lt (length a) (length b)) [
      | inl less ↦ absurd (longer a b 1 1 (omega arith) less e)
      | inr more ↦
          elim (cases_lt (length b) (length a)) [
            | inl less ↦ absurd (longer b a 1 1 (omega arith) less (sym e))
            | inr no_more ↦ (same_length a b 1 1 (omega arith) e).1
          ]
    ]

constant : (count i state : ℕ) → get_or (replicate count state) i state ≡ state
constant count i state =
    elim (cases_lt i count) [
      | inl within ↦ get_or-replicate count i state state within
      | inr past ↦ get_or_past (replicate count state) i state (omega (arith, length-replicate count state))
    ]

pub all_zero : (contexts : Cells) (count : ℕ) → contexts.cells ≡ replicate count 0 → states_of contexts ≡ fresh
unfolding states_of
all_zero contexts count e = fun_ext (λ colours. ap (λ cells. get_or cells (number_of colours) 0) e ∙ constant count (number_of colours) 0)

pub set_state : (old : Cells) (cells : List ℕ) (colours : List Bool) (number state : ℕ) → number_of colours ≡ number → number < length old.cells →
    cells ≡ set old.cells number state → states_of (record { cells = cells }) ≡ with_state (states_of old) colours state
unfolding states_of
set_state old cells colours number state n p e = fun_ext (λ other.
    ap (λ cells. get_or cells (number_of other) 0) (e ∙ ap (λ i. set old.cells i state) (sym n))
    ∙ elim (cases_Bool (are_same colours other)) [
      | inl same ↦
          ap (λ o. get_or (set old.cells (number_of colours) state) (number_of o) 0) (sym (are_same-true colours other same))
          ∙ get_or-set_same old.cells (number_of colours) state 0 (omega arith)
          ∙ sym (stored_here are_same (states_of old) colours other state same)
      | inr differs ↦
          get_or-set_other old.cells (number_of colours) (number_of other) state 0 (λ e.
          let one = number-injective other colours e in
          let is : are_same colours colours ≡ false = ap (λ o. are_same colours o) (sym one) ∙ differs in
          let is_not = are_same-refl colours in
          cc)
          ∙ sym (stored_elsewhere are_same (states_of old) colours other state differs)
    ])

-- the cell of a context holds its state
pub state_in : (old : Cells) (colours : List Bool) (number state : ℕ) → number_of colours ≡ number → number < number_limit → length old.cells ≡ number_limit →
    state ≡ get_or old.cells number state → state ≡ states_of old colours
unfolding states_of
state_in old colours number state n within size read =
    get_or_read_under old.cells number number_limit state 0 read within (sym size) ∙ ap (λ i. get_or old.cells i 0) (sym n)

pub others_stay : (states : States) (colours other : List Bool) (state : ℕ) → colours ≢ other → with_state states colours state other ≡ states other
others_stay states colours other state differs =
    elim (cases_Bool (are_same colours other)) [
      | inl same ↦ absurd (differs (are_same-true colours other same))
      | inr different ↦ stored_elsewhere are_same states colours other state different
    ]
