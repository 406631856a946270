-- Files that weren't read yet: `open`, `draw`.
use Rattle.std.proofs.Common.{◌≡◌, ◌≢◌, ◌≤◌, ℕ, zero, suc, Bool, true, false, Some, List, [], ◌∷◌, length, refl, sym, ap, ◌∙◌, arith}
use Rattle.std.specs.Prelude.{slice_get}
use Rattle.viewer_run.specs.CoreRun.{unread}

pub few_unread : (flags : List Bool) → unread flags ≤ length flags
few_unread [] = omega arith
few_unread (true ∷ flags) = let rest = few_unread flags in omega (arith, rest)
few_unread (false ∷ flags) = let rest = few_unread flags in omega (arith, rest)

same_unread : (old new : List Bool) → length new ≡ length old → ((other : ℕ) → slice_get new other ≡ slice_get old other) → unread new ≡ unread old
same_unread [] [] many same = refl
same_unread [] (flag ∷ new) many same = absurd (omega (arith, many))
same_unread (was ∷ old) [] many same = absurd (omega (arith, many))
same_unread (was ∷ old) (flag ∷ new) many same =
    by was flag (some_same flag was (same zero)) (same_unread old new (omega (arith, many)) (λ other. same (suc other)))
  where
    some_same : (a b : Bool) → Some a ≡ Some b → a ≡ b
    some_same a b e = cc

    by : (was flag : Bool) → flag ≡ was → unread new ≡ unread old → unread (flag ∷ new) ≡ unread (was ∷ old)
    by was flag e rest = ap (λ f. unread (f ∷ new)) e ∙ more was
      where
        more : (b : Bool) → unread (b ∷ new) ≡ unread (b ∷ old)
        more true = rest
        more false = ap suc rest

-- one file less
pub one_read : (old new : List Bool) (file : ℕ) → length new ≡ length old → slice_get old file ≡ Some false → slice_get new file ≡ Some true
    → ((other : ℕ) → other ≢ file → slice_get new other ≡ slice_get old other) → suc (unread new) ≡ unread old
one_read [] new file many was is same = cc
one_read (flag ∷ old) [] file many was is same = cc
one_read (flag ∷ old) (now ∷ new) zero many was is same =
    let a : flag ≡ false = cc in
    let b : now ≡ true = cc in
    ap (λ f. suc (unread (f ∷ new))) b
    ∙ ap suc (same_unread old new (omega (arith, many)) (λ other. same (suc other) (λ e. cc)))
    ∙ ap (λ f. unread (f ∷ old)) (sym a)
one_read (flag ∷ old) (now ∷ new) (suc file) many was is same =
    by flag now (some_same now flag (same zero (λ e. cc)))
    (one_read old new file (omega (arith, many)) was is (λ other apart. same (suc other) (λ e. let pred : other ≡ file = cc in apart pred)))
  where
    some_same : (a b : Bool) → Some a ≡ Some b → a ≡ b
    some_same a b e = cc

    by : (flag now : Bool) → now ≡ flag → suc (unread new) ≡ unread old → suc (unread (now ∷ new)) ≡ unread (flag ∷ old)
    by flag now e rest = ap (λ f. suc (unread (f ∷ new))) e ∙ more flag
      where
        more : (b : Bool) → suc (unread (b ∷ new)) ≡ unread (b ∷ old)
        more true = rest
        more false = ap suc rest

pub some_unread : (flags : List Bool) (file : ℕ) → slice_get flags file ≡ Some false → 1 ≤ unread flags
some_unread [] file e = cc
some_unread (true ∷ flags) zero e = cc
some_unread (false ∷ flags) zero e = omega arith
some_unread (true ∷ flags) (suc file) e = some_unread flags file e
some_unread (false ∷ flags) (suc file) e = omega arith
