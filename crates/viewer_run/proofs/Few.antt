-- Pages of a folder: their numbers, which are no more than its names: `draw_pages`.
use Rattle.std.proofs.Common.{◌≡◌, ◌≤◌, ℕ, suc, Bool, true, false, cond, ◌||◌, ◌<◌, zero, Some, List, [], ◌∷◌, length, get_or, refl, sym, ap, ◌∙◌, arith}
use Rattle.std.specs.Prelude.{slice_get}
use Rattle.std.specs.Str.{bytes_eq}
use Rattle.std.proofs.lemmas.Bool.{true≢false}
use Rattle.std.proofs.lemmas.Option.{slice_get_read, get_or_from_slice_get}
use Rattle.std.proofs.lemmas.Slice.Eq.{bytes_eq-Decides}
use Rattle.djvu_base.specs.Name.{is_listed}
use Rattle.viewer_words.specs.Lines.{name_at}
use Rattle.viewer_run.specs.Plan.{number_of, numbers_of}
use Rattle.viewer_run.specs.Shown.{AreDistinct}
use Rattle.viewer_run.specs.Start.{AreListed}
use Rattle.viewer_run.proofs.Apart.{number_name}
use Rattle.viewer_run.proofs.Cutting.{other_way, or_first, or_second}
use Rattle.viewer_run.proofs.Stepping.{mapped_at}

-- names without the first that is this one
abbrev without : List ℕ → List (List ℕ) → List (List ℕ)
without name [] = []
without name (first ∷ names) = cond (bytes_eq name first) names (first ∷ without name names)

one_less : (name : List ℕ) (names : List (List ℕ)) → is_listed names name ≡ true → suc (length (without name names)) ≡ length names
one_less name [] e = absurd (true≢false (sym e))
one_less name (first ∷ names) e = by (bytes_eq name first) e (one_less name names)
  where
    by : (t : Bool) → (t || is_listed names name) ≡ true → (is_listed names name ≡ true → suc (length (without name names)) ≡ length names)
        → suc (length (cond t names (first ∷ without name names))) ≡ suc (length names)
    by true e more = refl
    by false e more = ap suc (more e)

or_still : (a b c : Bool) → (b ≡ true → c ≡ true) → (a || b) ≡ true → (a || c) ≡ true
or_still true b c more e = refl
or_still false b c more e = more e

still_listed : (name other : List ℕ) (names : List (List ℕ)) → bytes_eq other name ≡ false → is_listed names other ≡ true
    → is_listed (without name names) other ≡ true
still_listed name other [] apart e = e
still_listed name other (first ∷ names) apart e = by (bytes_eq name first) refl e (still_listed name other names apart)
  where
    by : (t : Bool) → bytes_eq name first ≡ t → (bytes_eq other first || is_listed names other) ≡ true
        → (is_listed names other ≡ true → is_listed (without name names) other ≡ true)
        → is_listed (cond t names (first ∷ without name names)) other ≡ true
    by true same e more =
        let none : bytes_eq other first ≡ false = ap (bytes_eq other) (sym ((bytes_eq-Decides name first).0 same)) ∙ apart in
        sym (ap (λ b. b || is_listed names other) none) ∙ e
    by false same e more = or_still (bytes_eq other first) (is_listed names other) (is_listed (without name names) other) more e

all_still : (name : List ℕ) (names pages : List (List ℕ)) → is_listed pages name ≡ false → AreListed names pages → AreListed (without name names) pages
all_still name names [] apart listed = tt
all_still name names (page ∷ pages) apart listed = (
  still_listed name page names (other_way name page (or_first (bytes_eq name page) (is_listed pages name) apart)) listed.0,
  all_still name names pages (or_second (bytes_eq name page) (is_listed pages name) apart) listed.1,
)

pub few_pages : (names pages : List (List ℕ)) → AreListed names pages → AreDistinct pages → length pages ≤ length names
few_pages names [] listed distinct = omega arith
few_pages names (page ∷ pages) listed distinct =
    let rest = few_pages (without page names) pages (all_still page names pages distinct.0 listed.1) distinct.1 in
    let less = one_less page names listed.0 in
    omega (arith, rest, less)

-- ---- one of the pages

listed_at : (names pages : List (List ℕ)) (at : ℕ) (page : List ℕ) → AreListed names pages → slice_get pages at ≡ Some page → is_listed names page ≡ true
listed_at names [] at page listed e = cc
listed_at names (first ∷ pages) zero page listed e = let same : first ≡ page = cc in ap (is_listed names) (sym same) ∙ listed.0
listed_at names (first ∷ pages) (suc at) page listed e = listed_at names pages at page listed.1 e

-- its number, which leads back to its name
pub record IsNumbered (names pages : List (List ℕ)) (at : ℕ) (page : List ℕ) : Type 0 where
  pub found : slice_get (numbers_of names pages) at ≡ Some (number_of names page)
  pub named : page ≡ name_at names (number_of names page)

pub page_numbered : (names pages : List (List ℕ)) (at : ℕ) (page : List ℕ) → AreListed names pages → at < length pages → page ≡ get_or pages at page
    → IsNumbered names pages at page
page_numbered names pages at page listed less is =
    let there = slice_get_read pages (length pages) at page refl less is in
    record {
      found = mapped_at (number_of names) pages at page there;
      named = sym (get_or_from_slice_get names (number_of names page) page [] (number_name names page (listed_at names pages at page listed there)));
    }
