-- Sums over the first numbers.
use Rattle.std.proofs.Common.{◌≡◌, ℕ, zero, suc, ◌+◌, ◌<◌, ◌≤◌, map, arith, refl, ap, sym, add-zero, add-suc, add-one, ◌∙◌}
use Rattle.std.specs.List.{range_with_len, sum_by}
use Rattle.std.proofs.lemmas.List.{map-id}
use Rattle.std.proofs.lemmas.List.FromFn.{sum_by-map-range_with_len_more}

-- the sum of what a function gives for the first n numbers
abbrev pub total : (ℕ → ℕ) → ℕ → ℕ
total f zero = 0
total f (suc n) = total f n + f n

pub total_same : (f g : ℕ → ℕ) (n : ℕ) → ((i : ℕ) → i < n → f i ≡ g i) → total f n ≡ total g n
total_same f g zero same = refl
total_same f g (suc n) same =
    let before = total_same f g n (λ i p. same i (omega arith)) in
    let last = same n (omega arith) in
    omega arith

pub total_nothing : (f : ℕ → ℕ) (n : ℕ) → ((i : ℕ) → i < n → f i ≡ 0) → total f n ≡ 0
total_nothing f zero none = refl
total_nothing f (suc n) none =
    let before = total_nothing f n (λ i p. none i (omega arith)) in
    let last = none n (omega arith) in
    omega arith

pub total_le : (f : ℕ → ℕ) (n : ℕ) → ((i : ℕ) → f i < 2) → total f n ≤ n
total_le f zero small = omega arith
total_le f (suc n) small =
    let before = total_le f n small in
    let last = small n in
    omega arith

pub total_joined : (f : ℕ → ℕ) (a b : ℕ) → total f (a + b) ≡ total f a + total (λ i. f (a + i)) b
total_joined f a zero = ap (total f) (add-zero a) ∙ sym (add-zero (total f a))
total_joined f a (suc b) =
    let before = total_joined f a b in
    let step : total f (a + suc b) ≡ total f (a + b) + f (a + b) = ap (total f) (add-suc a b) in
    omega arith

pub total_front : (f : ℕ → ℕ) (n : ℕ) → total f (suc n) ≡ f 0 + total (λ i. f (1 + i)) n
total_front f zero = omega arith
total_front f (suc n) =
    let before = total_front f n in
    let last : f (1 + n) ≡ f (suc n) = ap f (omega arith) in
    omega arith

-- the sum over a list that is made from a function of the index
pub sum_of_map : {X : Type 0} (g : X → ℕ) (f : ℕ → X) (n : ℕ) → sum_by g (map f (range_with_len 0 n)) ≡ total (λ i. g (f i)) n
sum_of_map g f zero = refl
sum_of_map g f (suc n) =
    let before = sum_of_map g f n in
    let step = sum_by-map-range_with_len_more g f 0 n n (omega arith) in
    let next : sum_by g (map f (range_with_len 0 (suc n))) ≡ sum_by g (map f (range_with_len 0 (n + 1))) = ap (λ k. sum_by g (map f (range_with_len 0 k))) (sym (add-one n)) in
    omega arith

pub sum_of_range : (f : ℕ → ℕ) (n : ℕ) → sum_by f (range_with_len 0 n) ≡ total f n
sum_of_range f n = ap (sum_by f) (sym (map-id (range_with_len 0 n))) ∙ sum_of_map f (λ i. i) n
