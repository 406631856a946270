-- Runs of bits that are set word by word.
use Rattle.std.proofs.Common.{◌≡◌, ℕ, ◌+◌, ◌-◌, ◌<◌, ◌≤◌, ◌⊎◌, inl, inr, max, List, arith, ap, sym, ◌∙◌}
use Rattle.std.proofs.lemmas.Bool.{cases_lt}
use Rattle.bit_plane.specs.Bits.{bit, digit}

-- the first bits of the run are set, so many of them, and no other is touched
pub record Ran (old new : List ℕ) (to : ℕ) (other : List ℕ) (from done : ℕ) : Type 0 where
  pub inside : (i : ℕ) → i < done → bit new (to + i) ≡ max (bit old (to + i)) (bit other (from + i))
  pub outside : (i : ℕ) → (i < to) ⊎ (to + done ≤ i) → bit new i ≡ bit old i

-- some more of them
pub ran_more : (old mid new : List ℕ) (to : ℕ) (other : List ℕ) (from done step bits : ℕ) → Ran old mid to other from done →
    ((i : ℕ) → i < step → digit bits i ≡ bit other (from + done + i)) →
    ((i : ℕ) → i < step → bit new (to + done + i) ≡ max (bit mid (to + done + i)) (digit bits i)) →
    ((i : ℕ) → (i < to + done) ⊎ (to + done + step ≤ i) → bit new i ≡ bit mid i) →
    Ran old new to other from (done + step)
ran_more old mid new to other from done step bits ran read inside outside = record {
  inside = λ i below.
      elim (cases_lt i done) [
        | inl before ↦ outside (to + i) (inl (omega arith)) ∙ ran.inside i before
        | inr here ↦
            let j : ℕ = i - done in
            let there : to + done + j ≡ to + i = omega arith in
            let source : from + done + j ≡ from + i = omega arith in
            let now = inside j (omega arith) in
            let was = ran.outside (to + done + j) (inr (omega arith)) in
            let bits_are = read j (omega arith) in
            ap (bit new) (sym there) ∙ now ∙ ap (λ b. max b (digit bits j)) (was ∙ ap (bit old) there) ∙ ap (max (bit old (to + i))) (bits_are ∙ ap (bit other) source)
      ];
  outside = λ i apart.
      elim apart [
        | inl before ↦ outside i (inl (omega arith)) ∙ ran.outside i (inl before)
        | inr behind ↦ outside i (inr (omega arith)) ∙ ran.outside i (inr (omega arith))
      ];
}
