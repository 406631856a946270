-- Names that are listed, by their numbers.
use Rattle.std.proofs.Common.{◌≡◌, ◌<◌, ℕ, zero, suc, Bool, true, false, cond, ◌||◌, Some, List, [], ◌∷◌, length, get_or, refl, sym, ap, ◌∙◌, arith}
use Rattle.std.specs.Prelude.{slice_get}
use Rattle.std.specs.Str.{bytes_eq}
use Rattle.std.proofs.lemmas.Bool.{true≢false}
use Rattle.std.proofs.lemmas.Slice.Eq.{bytes_eq-Decides}
use Rattle.djvu_base.specs.Name.{is_listed}
use Rattle.replay_core.specs.Core.{AreApart}
use Rattle.viewer_run.specs.Plan.{number_of, numbers_of}
use Rattle.viewer_run.specs.Shown.{AreDistinct}
use Rattle.viewer_run.specs.Start.{AreListed}

number_below : (names : List (List ℕ)) (name : List ℕ) → is_listed names name ≡ true → number_of names name < length names
number_below [] name e = absurd (true≢false (sym e))
number_below (first ∷ names) name e = by (bytes_eq name first) e (number_below names name)
  where
    by : (t : Bool) → (t || is_listed names name) ≡ true → (is_listed names name ≡ true → number_of names name < length names)
        → cond t zero (suc (number_of names name)) < suc (length names)
    by true e more = omega arith
    by false e more = let rest = more e in omega (arith, rest)

-- the numbers of listed pages are below that of all names
pub numbers_below : (names pages : List (List ℕ)) → AreListed names pages → (at d : ℕ) → at < length (numbers_of names pages)
    → get_or (numbers_of names pages) at d < length names
numbers_below names [] listed at d less = omega (arith, less)
numbers_below names (page ∷ pages) listed zero d less = number_below names page listed.0
numbers_below names (page ∷ pages) listed (suc at) d less = numbers_below names pages listed.1 at d (omega (arith, less))

-- and lead back to their names
pub number_name : (names : List (List ℕ)) (name : List ℕ) → is_listed names name ≡ true → slice_get names (number_of names name) ≡ Some name
number_name [] name e = absurd (true≢false (sym e))
number_name (first ∷ names) name e = by (bytes_eq name first) refl e (number_name names name)
  where
    by : (t : Bool) → bytes_eq name first ≡ t → (t || is_listed names name) ≡ true
        → (is_listed names name ≡ true → slice_get names (number_of names name) ≡ Some name)
        → slice_get (first ∷ names) (cond t zero (suc (number_of names name))) ≡ Some name
    by true h e more = ap Some (sym ((bytes_eq-Decides name first).0 h))
    by false h e more = more e

is_there : (names pages : List (List ℕ)) (at file : ℕ) (page : List ℕ) → AreListed names pages → slice_get (numbers_of names pages) at ≡ Some file
    → slice_get names file ≡ Some page → is_listed pages page ≡ true
is_there names [] at file page listed e named = cc
is_there names (first ∷ pages) zero file page listed e named =
    let number : number_of names first ≡ file = cc in
    let both : Some first ≡ Some page = sym (number_name names first listed.0) ∙ ap (slice_get names) number ∙ named in
    let same : page ≡ first = cc in
    ap (λ b. b || is_listed pages page) ((bytes_eq-Decides page first).1 same)
is_there names (first ∷ pages) (suc at) file page listed e named =
    or_more (bytes_eq page first) (is_listed pages page) (is_there names pages at file page listed.1 e named)
  where
    or_more : (a b : Bool) → b ≡ true → (a || b) ≡ true
    or_more true b e = refl
    or_more false b e = e

-- pages that differ have numbers that differ
pub are_apart : (names pages : List (List ℕ)) → AreListed names pages → AreDistinct pages → AreApart (numbers_of names pages)
are_apart names [] listed distinct one other file e h = cc
are_apart names (page ∷ pages) listed distinct zero zero file e h = refl
are_apart names (page ∷ pages) listed distinct zero (suc other) file e h =
    let number : number_of names page ≡ file = cc in
    let there = is_there names pages other file page listed.1 h (sym (ap (slice_get names) number) ∙ number_name names page listed.0) in
    absurd (true≢false (sym there ∙ distinct.0))
are_apart names (page ∷ pages) listed distinct (suc one) zero file e h =
    let number : number_of names page ≡ file = cc in
    let there = is_there names pages one file page listed.1 e (sym (ap (slice_get names) number) ∙ number_name names page listed.0) in
    absurd (true≢false (sym there ∙ distinct.0))
are_apart names (page ∷ pages) listed distinct (suc one) (suc other) file e h = ap suc (are_apart names pages listed.1 distinct.1 one other file e h)
