-- Owners of rows whose rights go round, and owners that are all free.
use Rattle.std.proofs.Common.{◌≡◌, ℕ, zero, suc, ◌+◌, ◌*◌, ◌/◌, ◌%◌, ◌<◌, List, [], ◌∷◌, ◌++◌, length, length-append, replicate, refl, sym, ap, subst}
use Rattle.std.proofs.Common.{◌∙◌, arith}
use Rattle.std.proofs.lemmas.Nat.{div-mul-add, mul-add-lt}
use Rattle.std.proofs.Math.Nat.{mul_comm}
use mathlib.Core.Logic.{dite}
use native.Mathlib.Decide.{ℕ_discrete}
use Rattle.once_board.specs.declared.owners.Owner.{Owner}
use Rattle.once_board.specs.declared.owners.Owner.TheVariants.{Free, Private}
use Rattle.once_board.specs.Places.{owner_of, IsFree}
use Rattle.once_board.specs.Rows.{IsLaid, rows_in_turn}

pub all_free : (n place : ℕ) → IsFree (replicate n Free) place
all_free zero place = refl
all_free (suc n) zero = refl
all_free (suc n) (suc place) = all_free n place

owner_before : (owners : List Owner) (last : Owner) (place : ℕ) → place < length owners → owner_of (owners ++ last ∷ []) place ≡ owner_of owners place
owner_before [] last place below = absurd (omega arith)
owner_before (o ∷ os) last zero below = refl
owner_before (o ∷ os) last (suc place) below = owner_before os last place (omega arith)

owner_last : (owners : List Owner) (last : Owner) → owner_of (owners ++ last ∷ []) (length owners) ≡ last
owner_last [] last = refl
owner_last (o ∷ os) last = owner_last os last

-- so many owners, each by its place
pub record GoRound (width rights count : ℕ) (owners : List Owner) : Type 0 where
  pub long : length owners ≡ count
  pub each : (place : ℕ) → place < count → owner_of owners place ≡ Private (place / width % rights)

pub none_round : (width rights : ℕ) → GoRound width rights 0 []
none_round width rights = record { long = refl; each = λ place below. absurd (omega arith) }

pub next_round : (width rights count : ℕ) (owners after : List Owner) → after ≡ owners ++ Private (count / width % rights) ∷ []
    → GoRound width rights count owners
    → GoRound width rights (count + 1) after
next_round width rights count owners after is old = subst (GoRound width rights (count + 1)) (sym is) (record {
  long = let e = length-append owners (Private (count / width % rights) ∷ []) in let n = old.long in omega arith;
  each = λ place below. dite (ℕ_discrete place count)
      (λ top. subst (λ p. owner_of (owners ++ Private (count / width % rights) ∷ []) p ≡ Private (p / width % rights)) (sym top)
      (ap (owner_of (owners ++ Private (count / width % rights) ∷ [])) (sym old.long) ∙ owner_last owners (Private (count / width % rights))))
      (λ lower. owner_before owners (Private (count / width % rights)) place (let n = old.long in omega arith) ∙ old.each place (omega arith));
})

pub rows_laid : (count width rights : ℕ) (owners : List Owner) → GoRound width rights (count * width) owners → IsLaid (rows_in_turn count width rights) owners
rows_laid count width rights owners all = record {
  long = all.long;
  each = λ row at r a.
      let place = mul-add-lt row width at count r a in
      let turned : width * count ≡ count * width = mul_comm width count in
      all.each (row * width + at) (omega arith) ∙ ap (λ n. Private (n % rights)) (div-mul-add row width at a);
}
