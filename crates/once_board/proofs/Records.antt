-- What is known of a place after each change of what a seat knows.
use Rattle.std.proofs.Common.{◌≡◌, ◌≢◌, ℕ, zero, suc, List, [], ◌∷◌, map, sym, refl, ap, ◌∙◌, subst}
use Rattle.once_board.specs.declared.holds.Known.{Known}
use mathlib.Core.Logic.{dite}
use native.Mathlib.Decide.{ℕ_discrete}
use Rattle.once_board.specs.declared.holds.Hold.{Hold}
use Rattle.once_board.specs.Holds.{Extends}
use Rattle.once_board.specs.Places.{unknown, record_of, noted, met, together, unread, Grows}

module _ {T : Type 0} where
  pub noted_here : (l : List (Known T)) (p : ℕ) (k : Known T) → record_of (noted l p k) p ≡ k
  noted_here [] zero k = refl
  noted_here [] (suc p) k = noted_here [] p k
  noted_here (x ∷ xs) zero k = refl
  noted_here (x ∷ xs) (suc p) k = noted_here xs p k

  pub noted_else : (l : List (Known T)) (p q : ℕ) (k : Known T) → q ≢ p → record_of (noted l p k) q ≡ record_of l q
  noted_else [] zero zero k n = absurd (n refl)
  noted_else [] zero (suc q) k n = refl
  noted_else [] (suc p) zero k n = refl
  noted_else [] (suc p) (suc q) k n = noted_else [] p q k (λ e. n (ap suc e))
  noted_else (x ∷ xs) zero zero k n = absurd (n refl)
  noted_else (x ∷ xs) zero (suc q) k n = refl
  noted_else (x ∷ xs) (suc p) zero k n = refl
  noted_else (x ∷ xs) (suc p) (suc q) k n = noted_else xs p q k (λ e. n (ap suc e))

  pub noted_twice : (l : List (Known T)) (p : ℕ) (k j : Known T) → noted (noted l p k) p j ≡ noted l p j
  noted_twice [] zero k j = refl
  noted_twice [] (suc p) k j = ap (λ m. unknown ∷ m) (noted_twice [] p k j)
  noted_twice (x ∷ xs) zero k j = refl
  noted_twice (x ∷ xs) (suc p) k j = ap (λ m. x ∷ m) (noted_twice xs p k j)

  of_map : (f : Known T → Known T) → f unknown ≡ unknown → (l : List (Known T)) (p : ℕ) → record_of (map f l) p ≡ f (record_of l p)
  of_map f e [] p = sym e
  of_map f e (x ∷ xs) zero = refl
  of_map f e (x ∷ xs) (suc p) = of_map f e xs p

  pub record_of-unread : (l : List (Known T)) (p : ℕ) → record_of (map unread l) p ≡ unread (record_of l p)
  record_of-unread l p = of_map unread refl l p

  pub record_of-together : (l m : List (Known T)) (p : ℕ) → record_of (together l m) p ≡ met (record_of l p) (record_of m p)
  record_of-together [] ms p = of_map (met unknown) refl ms p
  record_of-together (x ∷ xs) [] p = of_map (λ k. met k unknown) refl (x ∷ xs) p
  record_of-together (x ∷ xs) (y ∷ ys) zero = refl
  record_of-together (x ∷ xs) (y ∷ ys) (suc p) = record_of-together xs ys p

  pub grows_same : (k : Known T) → Grows k k
  grows_same k = record { still_claimed = λ h. h; still_open = λ h. h; same_value = λ x h. h }

  -- a change at one place, of which nothing is lost
  pub extends_at : (h h' : Hold T) (p : ℕ) (k : Known T) → h'.places ≡ noted h.places p k → Grows (record_of h.places p) k → Extends h h'
  extends_at h h' p k is grows q = dite (ℕ_discrete q p)
      (λ same.
      let now : record_of h'.places p ≡ k = ap (λ l. record_of l p) is ∙ noted_here h.places p k in
      let there : Grows (record_of h.places p) (record_of h'.places p) = subst (λ z. Grows (record_of h.places p) z) (sym now) grows in
      subst (λ z. Grows (record_of h.places z) (record_of h'.places z)) (sym same) there)
      (λ ne.
      let now : record_of h'.places q ≡ record_of h.places q = ap (λ l. record_of l q) is ∙ noted_else h.places p q k ne in
      subst (λ z. Grows (record_of h.places q) z) (sym now) (grows_same (record_of h.places q)))
