-- Seats that are joined one after another, for the crates above: each comes with an item of a list, as with a pass that ended.
use Rattle.std.specs.Prelude.{◌≡◌, ℕ, ◌+◌, List, All}
use Rattle.once_board.specs.declared.holds.Hold.{Hold}
use Rattle.once_board.specs.declared.owners.Owner.{Owner}
use Rattle.once_board.specs.Numbers.{times, total}
use Rattle.once_board.specs.Holds.{Extends, OwnsAll}

-- the seats of these items were joined into the first, which became h: it has what they had together, it knows what each of
-- them knew, and of a place that was private to a right of one of them it knows no more than that one
pub record Gathered {X T : Type 0} (seat : X → Hold T) (owners : List Owner) (first : Hold T) (xs : List X) (h : Hold T) : Type 0 where
  pub parts : h.parts ≡ first.parts + total (λ x. (seat x).parts) xs
  pub rights : (right : ℕ) → times right h.rights ≡ times right first.rights + total (λ x. times right (seat x).rights) xs
  pub claims : (place : ℕ) → times place h.claims ≡ times place first.claims + total (λ x. times place (seat x).claims) xs
  pub puts : (place : ℕ) → times place h.puts ≡ times place first.puts + total (λ x. times place (seat x).puts) xs
  pub knows_first : Extends first h
  pub owns_first : OwnsAll owners first h
  pub knows_each : All (λ x. Extends (seat x) h) xs
  pub owns_each : All (λ x. OwnsAll owners (seat x) h) xs

-- the same of two lists, the second of which was joined after the first
pub record GatheredTwice {X Y T : Type 0} (seat : X → Hold T) (other : Y → Hold T) (owners : List Owner) (first : Hold T)
    (xs : List X) (ys : List Y) (h : Hold T) : Type 0 where
  pub parts : h.parts ≡ first.parts + total (λ x. (seat x).parts) xs + total (λ y. (other y).parts) ys
  pub rights : (right : ℕ)
      → times right h.rights ≡ times right first.rights + total (λ x. times right (seat x).rights) xs + total (λ y. times right (other y).rights) ys
  pub claims : (place : ℕ)
      → times place h.claims ≡ times place first.claims + total (λ x. times place (seat x).claims) xs + total (λ y. times place (other y).claims) ys
  pub puts : (place : ℕ)
      → times place h.puts ≡ times place first.puts + total (λ x. times place (seat x).puts) xs + total (λ y. times place (other y).puts) ys
  pub knows_first : Extends first h
  pub owns_first : OwnsAll owners first h
  pub knows_each : All (λ x. Extends (seat x) h) xs
  pub owns_each : All (λ x. OwnsAll owners (seat x) h) xs
  pub knows_each_other : All (λ y. Extends (other y) h) ys
  pub owns_each_other : All (λ y. OwnsAll owners (other y) h) ys
