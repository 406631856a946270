-- What a seat has to do with a place before and after a change of it.
use Rattle.std.proofs.Common.{◌≡◌, ◌≢◌, ℕ, zero, suc, ◌≤◌, eq-eqb, ne_eqb, List, ◌∷◌, sym, refl, arith, Option, Some, None}
use Rattle.once_board.specs.declared.holds.Stage.TheVariants.{Filling, Turn}
use Rattle.once_board.specs.Numbers.{times}
use Rattle.once_board.specs.Rule.{fills, turn_of, At}
use Rattle.once_board.proofs.Sums.{times_else}

-- no value is known, where none can be
pub none_of : {T : Type 0} (o : Option T) → ((x : T) → o ≡ Some x → ⊥) → o ≡ None
none_of None no_value = refl
none_of (Some x) no_value = absurd (no_value x refl)

-- the claims of other places, after one more claim
pub other_claims : (p q : ℕ) (claims : List ℕ) → q ≢ p → times q (p ∷ claims) ≡ times q claims
other_claims p q claims n = times_else q p claims (λ e. n (sym e))

pub fills_else : (T : Type 0) (p q : ℕ) → q ≢ p → fills {T = T} q (Filling p) ≡ 0
fills_else T p q n = rw (ne_eqb p q (λ e. n (sym e)))

pub fills_here : (T : Type 0) (p : ℕ) → fills {T = T} p (Filling p) ≡ 1
fills_here T p = rw (eq-eqb p p refl)

pub zero_unless : (n : ℕ) → (1 ≤ n → ⊥) → n ≡ 0
zero_unless zero h = refl
zero_unless (suc n) h = absurd (h (omega arith))

module _ {T : Type 0} where
  pub at_same : (a b : At T) → a.claims ≡ b.claims → a.puts ≡ b.puts → a.fills_it ≡ b.fills_it → a.turn ≡ b.turn → a.known ≡ b.known → a.rights ≡ b.rights
      → a ≡ b
  at_same a b c p f t k r i = record { claims = c i; puts = p i; fills_it = f i; turn = t i; known = k i; rights = r i }

  pub turn_else : (p q : ℕ) (x : T) → q ≢ p → turn_of q (Turn p x) ≡ None
  turn_else p q x n = rw (ne_eqb p q (λ e. n (sym e)))

  pub turn_here : (p : ℕ) (x : T) → turn_of p (Turn p x) ≡ Some x
  turn_here p x = rw (eq-eqb p p refl)
