-- Sums over all seats, and how often numbers stand in lists.
use Rattle.std.proofs.Common.{◌≡◌, ◌≢◌, ℕ, zero, suc, ◌+◌, ◌<◌, ◌≤◌, eq-eqb, ne_eqb, List, [], ◌∷◌, ◌++◌, set, sym, refl, ap, ◌∙◌, arith}
use mathlib.Core.Option.{some, some-injective, some-ne-none}
use native.Mathlib.Decide.{ℕ_discrete, dec_lt}
use lib.ListN.{get_elem?}
use Rattle.once_board.specs.Numbers.{times, without, below, every_right, all_parts, total}

module _ {V : Type 0} where
  pub total_set : (f : V → ℕ) (l : List V) (i : ℕ) (v w : V) → get_elem? l i ≡ some v → total f (set l i w) + f v ≡ total f l + f w
  total_set f [] i v w e = absurd (some-ne-none v (sym e))
  total_set f (x ∷ xs) zero v w e = let is : f x ≡ f v = ap f (some-injective x v e) in omega arith
  total_set f (x ∷ xs) (suc i) v w e = let r = total_set f xs i v w e in omega arith

  -- where a change of one view leaves its number, the sum stays
  pub total_same : (f : V → ℕ) (l : List V) (i : ℕ) (v w : V) → get_elem? l i ≡ some v → f w ≡ f v → total f (set l i w) ≡ total f l
  total_same f l i v w e is = let r = total_set f l i v w e in omega arith

  pub set_there : (l : List V) (i : ℕ) (v w : V) → get_elem? l i ≡ some v → get_elem? (set l i w) i ≡ some w
  set_there [] i v w e = absurd (some-ne-none v (sym e))
  set_there (x ∷ xs) zero v w e = refl
  set_there (x ∷ xs) (suc i) v w e = set_there xs i v w e

  pub total_one : (f : V → ℕ) (l : List V) (i : ℕ) (v : V) → get_elem? l i ≡ some v → f v ≤ total f l
  total_one f [] i v e = absurd (some-ne-none v (sym e))
  total_one f (x ∷ xs) zero v e = let is : f x ≡ f v = ap f (some-injective x v e) in omega arith
  total_one f (x ∷ xs) (suc i) v e = let r = total_one f xs i v e in omega arith

  pub total_two : (f : V → ℕ) (l : List V) (i j : ℕ) (v w : V) → j ≢ i → get_elem? l i ≡ some v → get_elem? l j ≡ some w → f v + f w ≤ total f l
  total_two f [] i j v w n e d = absurd (some-ne-none v (sym e))
  total_two f (x ∷ xs) zero zero v w n e d = absurd (n refl)
  total_two f (x ∷ xs) zero (suc j) v w n e d = let is : f x ≡ f v = ap f (some-injective x v e) in let r = total_one f xs j w d in omega arith
  total_two f (x ∷ xs) (suc i) zero v w n e d = let is : f x ≡ f w = ap f (some-injective x w d) in let r = total_one f xs i v e in omega arith
  total_two f (x ∷ xs) (suc i) (suc j) v w n e d = let r = total_two f xs i j v w (λ s. n (ap suc s)) e d in omega arith

  pub total_end : (f : V → ℕ) (l : List V) (w : V) → total f (l ++ w ∷ []) ≡ total f l + f w
  total_end f [] w = omega arith
  total_end f (x ∷ xs) w = let r = total_end f xs w in omega arith

  pub total_none : (f : V → ℕ) (l : List V) → ((j : ℕ) (w : V) → get_elem? l j ≡ some w → f w ≡ 0) → total f l ≡ 0
  total_none f [] none = refl
  total_none f (x ∷ xs) none = let is : f x ≡ 0 = none zero x refl in let r = total_none f xs (λ j w d. none (suc j) w d) in omega arith

  -- where only one view has a number, that is the sum
  pub total_alone : (f : V → ℕ) (l : List V) (i : ℕ) (v : V) → get_elem? l i ≡ some v → ((j : ℕ) (w : V) → j ≢ i → get_elem? l j ≡ some w → f w ≡ 0)
      → total f l ≡ f v
  total_alone f [] i v e others = absurd (some-ne-none v (sym e))
  total_alone f (x ∷ xs) zero v e others = let is : f x ≡ f v = ap f (some-injective x v e) in
      let r = total_none f xs (λ j w d. others (suc j) w (λ s. omega arith) d) in omega arith
  total_alone f (x ∷ xs) (suc i) v e others = let is : f x ≡ 0 = others zero x (λ s. omega arith) refl in
      let r = total_alone f xs i v e (λ j w n d. others (suc j) w (λ s. n (omega arith)) d) in omega arith

  -- one view is cut in two
  pub total_split : (f : V → ℕ) (l : List V) (i : ℕ) (v a b : V) → get_elem? l i ≡ some v → f a + f b ≡ f v → total f (set l i a ++ b ∷ []) ≡ total f l
  total_split f l i v a b e sum = let t = total_set f l i v a e in let u = total_end f (set l i a) b in omega arith

  -- two views become one, and what is left of the other
  pub total_join : (f : V → ℕ) (l : List V) (i j : ℕ) (v w both rest : V) → get_elem? l i ≡ some v → get_elem? (set l i both) j ≡ some w
      → f both + f rest ≡ f v + f w
      → total f (set (set l i both) j rest) ≡ total f l
  total_join f l i j v w both rest e d sum = let t = total_set f l i v both e in let u = total_set f (set l i both) j w rest d in omega arith

  -- a sum that isn't 0 has a view whose number isn't
  some_from : (f : V → ℕ) (x : V) (xs : List V) → 0 < total f (x ∷ xs) → Dec (f x ≡ 0)
      → (0 < total f xs → (i : ℕ) × (v : V) × (get_elem? xs i ≡ some v) × (0 < f v)) → (i : ℕ) × (v : V) × (get_elem? (x ∷ xs) i ≡ some v) × (0 < f v)
  some_from f x xs p (yes z) rest = let r = rest (omega arith) in (suc r.0, r.1, r.2, r.3)
  some_from f x xs p (no n) rest = (zero, x, refl, omega arith)

  pub total_some : (f : V → ℕ) (l : List V) → 0 < total f l → (i : ℕ) × (v : V) × (get_elem? l i ≡ some v) × (0 < f v)
  total_some f [] p = absurd (omega arith)
  total_some f (x ∷ xs) p = some_from f x xs p (ℕ_discrete (f x) 0) (λ q. total_some f xs q)

-- how often numbers stand in lists

pub times_here : (x : ℕ) (xs : List ℕ) → times x (x ∷ xs) ≡ suc (times x xs)
times_here x xs = rw (eq-eqb x x refl) (omega arith)

pub times_else : (x y : ℕ) (xs : List ℕ) → y ≢ x → times x (y ∷ xs) ≡ times x xs
times_else x y xs n = rw (ne_eqb y x n) (omega arith)

pub times-append : (x : ℕ) (xs ys : List ℕ) → times x (xs ++ ys) ≡ times x xs + times x ys
times-append x [] ys = omega arith
times-append x (z ∷ zs) ys = let r = times-append x zs ys in omega arith

without_from : (x y : ℕ) (ys : List ℕ) → 1 ≤ times x (y ∷ ys) → Dec (y ≡ x) → (1 ≤ times x ys → suc (times x (without x ys)) ≡ times x ys)
    → suc (times x (without x (y ∷ ys))) ≡ times x (y ∷ ys)
without_from x y ys h (yes e) rest = rw (eq-eqb y x e) (omega arith)
without_from x y ys h (no n) rest = let t = times_else x y ys n in let r = rest (omega arith) in
    rw (ne_eqb y x n) (omega (arith, times_else x y (without x ys) n))

-- one is taken out
pub times-without : (x : ℕ) (xs : List ℕ) → 1 ≤ times x xs → suc (times x (without x xs)) ≡ times x xs
times-without x [] h = absurd (omega arith)
times-without x (y ∷ ys) h = without_from x y ys h (ℕ_discrete y x) (λ p. times-without x ys p)

others_from : (x z y : ℕ) (ys : List ℕ) → z ≢ x → Dec (y ≡ x) → times z (without x ys) ≡ times z ys → times z (without x (y ∷ ys)) ≡ times z (y ∷ ys)
others_from x z y ys n (yes e) rest = rw (eq-eqb y x e) (sym (times_else z y ys (λ s. n (sym s ∙ e))))
others_from x z y ys n (no d) rest = rw (ne_eqb y x d) (omega arith)

pub times-without_other : (x z : ℕ) (xs : List ℕ) → z ≢ x → times z (without x xs) ≡ times z xs
times-without_other x z [] n = refl
times-without_other x z (y ∷ ys) n = others_from x z y ys n (ℕ_discrete y x) (times-without_other x z ys n)

few_from : (x z y : ℕ) (ys : List ℕ) → Dec (y ≡ x) → times z (without x ys) ≤ times z ys → times z (without x (y ∷ ys)) ≤ times z (y ∷ ys)
few_from x z y ys (yes e) rest = rw (eq-eqb y x e) (omega arith)
few_from x z y ys (no d) rest = rw (ne_eqb y x d) (omega arith)

-- what is left has no number more often
pub times-without_few : (x z : ℕ) (xs : List ℕ) → times z (without x xs) ≤ times z xs
times-without_few x z [] = omega arith
times-without_few x z (y ∷ ys) = few_from x z y ys (ℕ_discrete y x) (times-without_few x z ys)

one_from : (x y : ℕ) → Dec (y ≡ x) → times x (y ∷ []) ≤ 1
one_from x y (yes e) = rw (eq-eqb y x e) (omega arith)
one_from x y (no n) = rw (ne_eqb y x n) (omega arith)

pub times_single : (x y : ℕ) → times x (y ∷ []) ≤ 1
times_single x y = one_from x y (ℕ_discrete y x)

none_below : (n x : ℕ) → n ≤ x → times x (below n) ≡ 0
unfolding below
none_below zero x h = refl
none_below (suc n) x h = times_else x n (below n) (λ e. omega arith) ∙ none_below n x (omega arith)

below_from : (n x : ℕ) → x < suc n → Dec (n ≡ x) → (x < n → times x (below n) ≡ 1) → times x (below (suc n)) ≡ 1
unfolding below
below_from n x h (yes e) rest = rw (eq-eqb n x e) (omega (arith, none_below n x (omega arith)))
below_from n x h (no d) rest = times_else x n (below n) d ∙ rest (omega arith)

pub times_below : (n x : ℕ) → x < n → times x (below n) ≡ 1
times_below zero x h = absurd (omega arith)
times_below (suc n) x h = below_from n x h (ℕ_discrete n x) (λ p. times_below n x p)

pub every_right_once : (right : ℕ) → right < all_parts → times right every_right ≡ 1
unfolding every_right
every_right_once right h = times_below all_parts right h

pub parts_are : all_parts ≡ 4294967296
unfolding all_parts
parts_are = refl

at_most_one_below : (n x : ℕ) → Dec (x < n) → times x (below n) ≤ 1
at_most_one_below n x (yes h) = let t = times_below n x h in omega arith
at_most_one_below n x (no h) = let t = none_below n x (omega arith) in omega arith

pub every_right_at_most_once : (right : ℕ) → times right every_right ≤ 1
unfolding every_right
every_right_at_most_once right = at_most_one_below all_parts right (dec_lt right all_parts)
