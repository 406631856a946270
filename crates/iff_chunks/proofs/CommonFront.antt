-- What bytes are against bytes that are wanted, by how much they have in common.
use Rattle.std.proofs.Common.{◌≡◌, ◌≢◌, ℕ, ◌+◌, ◌<◌, ◌≤◌, zero, suc, true, false, cond, List, [], ◌∷◌, ◌++◌, length, take, drop, eqb, refl, sym, ap, ◌∙◌, arith}
use Rattle.std.proofs.lemmas.Grind.{common_steps}
use Rattle.std.proofs.lemmas.List.{length-drop, drop-drop}
use Rattle.iff_chunks.specs.Start.{Begins, Arriving, Differs, start_of, common_front}
use Rattle.iff_chunks.specs.Matching.{Matches}
use Rattle.iff_chunks.specs.declared.fronts.Match.TheVariants as matching

pub common_none : (w : List ℕ) → common_front w [] ≡ 0
common_none [] = refl
common_none (x ∷ w) = refl

pub common_le_wanted : (w b : List ℕ) → common_front w b ≤ length w
common_le_wanted [] b = omega arith
common_le_wanted (x ∷ w) [] = omega arith
common_le_wanted (x ∷ w) (y ∷ b) =
    elim (eqb x y) as (λ t. cond t (common_front w b + 1) 0 ≤ suc (length w)) [ true ↦ omega (arith, common_le_wanted w b) | false ↦ omega arith ]

pub common_le_bytes : (w b : List ℕ) → common_front w b ≤ length b
common_le_bytes [] b = omega arith
common_le_bytes (x ∷ w) [] = omega arith
common_le_bytes (x ∷ w) (y ∷ b) =
    elim (eqb x y) as (λ t. cond t (common_front w b + 1) 0 ≤ suc (length b)) [ true ↦ omega (arith, common_le_bytes w b) | false ↦ omega arith ]

-- all wanted bytes are there
begins : (w b more : List ℕ) → common_front w b ≡ length w → start_of w (take (common_front w b) b ++ more) ≡ Begins more
begins [] b more e = refl
begins (x ∷ w) [] more e = absurd (omega arith)
begins (x ∷ w) (y ∷ b) more e = grind (arith, common_steps, begins w b more)

-- the bytes end inside of what is wanted
arriving : (w b more : List ℕ) → common_front w b ≡ length b → start_of w (b ++ more) ≡ start_of (drop (length b) w) more
arriving [] [] more e = refl
arriving [] (y ∷ b) more e = absurd (omega arith)
arriving (x ∷ w) [] more e = refl
arriving (x ∷ w) (y ∷ b) more e = grind (arith, common_steps, arriving w b more)

-- a byte differs
differs : (w b more : List ℕ) → common_front w b < length w → common_front w b < length b → start_of w (take (common_front w b + 1) b ++ more) ≡ Differs
differs [] b more h k = absurd (omega arith)
differs (x ∷ w) [] more h k = absurd (omega arith)
differs (x ∷ w) (y ∷ b) more h k = grind (arith, common_steps, differs w b more)

-- fewer bytes than are there in common settle nothing
arriving_part : (w b : List ℕ) (n : ℕ) → n ≤ common_front w b → n < length w → start_of w (take n b) ≡ Arriving
arriving_part [] b n h k = absurd (omega arith)
arriving_part (x ∷ w) b zero h k = refl
arriving_part (x ∷ w) [] (suc n) h k = refl
arriving_part (x ∷ w) (y ∷ b) (suc n) h k = grind (arith, common_steps, arriving_part w b n)

pub whole_match : (wanted : List ℕ) (matched : ℕ) (piece : List ℕ) (used : ℕ) → used ≡ common_front (drop matched wanted) piece
    → used ≡ length (drop matched wanted) → Matches wanted matched piece (matching.Whole used)
whole_match wanted matched piece used e whole =
    let w = drop matched wanted in (
      omega (arith, common_le_bytes w piece),
      λ more. ap (λ n. start_of w (take n piece ++ more)) e ∙ begins w piece more (sym e ∙ whole),
      λ n h. arriving_part w piece n (omega arith) (omega arith),
    )

pub part_match : (wanted : List ℕ) (matched : ℕ) (piece : List ℕ) (used : ℕ) → used ≡ common_front (drop matched wanted) piece
    → used ≢ length (drop matched wanted) → used ≡ length piece → matched < length wanted → Matches wanted matched piece (matching.Part (matched + used))
part_match wanted matched piece used e short whole inside =
    let w = drop matched wanted in (
      omega (arith, common_le_wanted w piece, length-drop matched wanted),
      λ more. arriving w piece more (sym e ∙ whole) ∙ ap (λ l. start_of l more) (ap (λ n. drop n w) (sym whole) ∙ drop-drop used matched wanted),
      λ n h. arriving_part w piece n (omega arith) (omega (arith, common_le_wanted w piece)),
    )

pub other_match : (wanted : List ℕ) (matched : ℕ) (piece : List ℕ) (used : ℕ) → used ≡ common_front (drop matched wanted) piece
    → used ≢ length (drop matched wanted) → used ≢ length piece → Matches wanted matched piece (matching.Differs (used + 1))
other_match wanted matched piece used e short long =
    let w = drop matched wanted in (
      omega (arith, common_le_bytes w piece),
      λ more. ap (λ n. start_of w (take (n + 1) piece ++ more)) e
          ∙ differs w piece more (omega (arith, common_le_wanted w piece)) (omega (arith, common_le_bytes w piece)),
      λ n h. arriving_part w piece n (omega arith) (omega (arith, common_le_wanted w piece)),
    )
