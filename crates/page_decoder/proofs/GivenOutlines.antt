-- Outlines at their places: one that is given is known from then on, and nothing else changes.
use Rattle.std.proofs.Common.{◌≡◌, ◌≢◌, ◌<◌, ◌==◌, Bool, true, false, ℕ, zero, suc, Option, Some, None, List, [], ◌∷◌, length, map, replicate, slice_set, refl, sym, ap, ◌∙◌, arith}
use Rattle.std.proofs.lemmas.Bool.{true≢false, eq-eqb, eqb-true}
use Rattle.std.specs.declared.sync.Arc.{Arc}
use Rattle.include_graph.specs.declared.outline.Outline.{Outline}
use Rattle.include_graph.specs.Verdicts.{in_list, outline_in}
use Rattle.include_graph.specs.Graphs.{KnownOn}

-- what is known where these stand
abbrev pub stands : {Z : Type 0} → List (Option (Arc Outline Z)) → ℕ → Option Outline
stands places = in_list (map outline_in places)

none_stands : (Z : Type 0) (count file : ℕ) → stands {Z = Z} (replicate count None) file ≡ None
none_stands Z zero file = refl
none_stands Z (suc count) zero = refl
none_stands Z (suc count) (suc file) = none_stands Z count file

-- places were made where there were none
pub places_stand : {Z : Type 0} (before places : List (Option (Arc Outline Z))) (count : ℕ) → length before ≡ 0 → places ≡ replicate count None
    → (file : ℕ) → stands places file ≡ stands before file
places_stand [] places count none e file = ap (λ p. stands p file) e ∙ none_stands _ count file
places_stand (place ∷ before) places count none e file = absurd (omega (arith, none))

pub stands_there : {Z : Type 0} (places : List (Option (Arc Outline Z))) (file : ℕ) (outline : Option (Arc Outline Z)) → file < length places
    → stands (slice_set places file outline) file ≡ outline_in outline
stands_there [] file outline b = absurd (omega (arith, b))
stands_there (place ∷ places) zero outline b = refl
stands_there (place ∷ places) (suc file) outline b = stands_there places file outline (omega (arith, b))

pub stands_elsewhere : {Z : Type 0} (places : List (Option (Arc Outline Z))) (file : ℕ) (outline : Option (Arc Outline Z)) (other : ℕ) → other ≢ file
    → stands (slice_set places file outline) other ≡ stands places other
stands_elsewhere [] file outline other e = refl
stands_elsewhere (place ∷ places) zero outline zero e = absurd (e refl)
stands_elsewhere (place ∷ places) zero outline (suc other) e = refl
stands_elsewhere (place ∷ places) (suc file) outline zero e = refl
stands_elsewhere (place ∷ places) (suc file) outline (suc other) e = stands_elsewhere places file outline other (λ h. e (ap suc h))

-- an outline is given that isn't known
pub known_on : {Z : Type 0} (before : ℕ → Option Outline) (places : List (Option (Arc Outline Z))) (file : ℕ) (outline : Option (Arc Outline Z))
    → ((other : ℕ) → stands places other ≡ before other) → before file ≡ None → KnownOn before (stands (slice_set places file outline))
known_on before places file outline same none other it e = by (other == file) refl
  where
    by : (b : Bool) → (other == file) ≡ b → stands (slice_set places file outline) other ≡ Some it
    by true h = absurd (clash (sym none ∙ ap before (sym (eqb-true other file h)) ∙ e))
      where
        clash : ◌≡◌ {A = Option Outline} None (Some it) → ⊥
        clash x = cc
    by false h = stands_elsewhere places file outline other (λ x. true≢false (sym (eq-eqb other file x) ∙ h)) ∙ same other ∙ e
