-- The sums of passes are those of their pages and of the files that they claimed.
use Rattle.std.proofs.Common.{◌≡◌, ◌≤◌, ℕ, suc, ◌+◌, Option, Some, None, List, [], ◌∷◌, length, refl, ap, ◌∙◌, arith}
use Rattle.std.specs.Prelude.{slice_get, sum_by, All}
use Rattle.std.proofs.lemmas.List.Sums.{sum_by-cons}
use Rattle.std.proofs.lemmas.List.Elements.{All-head, All-tail}
use Rattle.once_board.specs.Numbers.{total}
use Rattle.replay_core.specs.Counts.{PageCount, counted, spent_on}
use Rattle.djvu_session.specs.Passes.{Setup, PageState, DecoderView, item, page_of, spent_of}
use Rattle.djvu_session.specs.Spent.{decisions_of, one_if, sum_of}
use Rattle.djvu_session.specs.Everyone.{or_else, state_in, spent_in, page_counts, file_counts, counts_in}
use Rattle.djvu_session.specs.Together.{one_page}

-- a number for each item of a list, by its place
abbrev span : {A : Type 0} → (ℕ → ℕ) → ℕ → List A → ℕ
span f from [] = 0
span f from (x ∷ xs) = f from + span f (suc from) xs

span_both : {A : Type 0} (f g h : ℕ → ℕ) (from : ℕ) (xs : List A) → ((k : ℕ) → f k ≡ g k + h k) → span f from xs ≡ span g from xs + span h from xs
span_both f g h from [] each = omega arith
span_both f g h from (x ∷ xs) each =
    let here = each from in let rest = span_both f g h (suc from) xs each in omega (arith, here, rest)

span_none : {A : Type 0} (from : ℕ) (xs : List A) → span (λ k. 0) from xs ≡ 0
span_none from [] = refl
span_none from (x ∷ xs) = let rest = span_none (suc from) xs in omega (arith, rest)

span_pages : (passes : List DecoderView) (from : ℕ) (files : List ℕ)
    → sum_by (λ (page : PageCount). page.decisions) (page_counts passes from files) ≡ span (λ k. decisions_of (state_in passes k)) from files
span_pages passes from [] = refl
span_pages passes from (file ∷ files) =
    let rest = span_pages passes (suc from) files in
    let more = sum_by-cons (λ (page : PageCount). page.decisions) (record { file = file; decisions = decisions_of (state_in passes from) })
    (page_counts passes (suc from) files) in
    omega (arith, rest, more)

span_files : (passes : List DecoderView) (from : ℕ) (names : List (List ℕ))
    → sum_by spent_on (file_counts passes from names) ≡ span (λ k. spent_on (spent_in passes k)) from names
span_files passes from [] = refl
span_files passes from (name ∷ names) =
    let rest = span_files passes (suc from) names in
    let more = sum_by-cons spent_on (spent_in passes from) (file_counts passes (suc from) names) in
    omega (arith, rest, more)

-- what stands at the places of one list is its sum
span_items : {A B : Type 0} (count : Option A → ℕ) (its : List (Option A)) (xs : List B) (from : ℕ) (f : ℕ → ℕ)
    → ((k : ℕ) → f (from + k) ≡ count (item (slice_get its k))) → length its ≡ length xs → span f from xs ≡ sum_by count its
span_items count [] [] from f each long = refl
span_items count [] (x ∷ xs) from f each long = absurd (omega (arith, long))
span_items count (it ∷ its) [] from f each long = absurd (omega (arith, long))
span_items count (it ∷ its) (x ∷ xs) from f each long =
    let start : from ≡ from + 0 = omega arith in
    let here : f from ≡ count it = ap f start ∙ each 0 in
    let rest = span_items count its xs (suc from) f (λ k. let on : suc from + k ≡ from + suc k = omega arith in ap f on ∙ each (suc k))
    (omega (arith, long)) in
    let more = sum_by-cons count it its in
    omega (arith, here, rest, more)

-- ---- of the first pass and the others

no_state : (passes : List DecoderView) (page : ℕ) → total (λ pass. one_page (page_of pass page)) passes ≡ 0 → state_in passes page ≡ None
no_state [] page e = refl
no_state (pass ∷ passes) page e = by (page_of pass page) e (no_state passes page)
  where
    by : (own : Option PageState) → one_page own + total (λ pass. one_page (page_of pass page)) passes ≡ 0
        → (total (λ pass. one_page (page_of pass page)) passes ≡ 0 → state_in passes page ≡ None) → or_else own (state_in passes page) ≡ None
    by None e rest = rest (omega (arith, e))
    by (Some state) e rest = absurd (omega (arith, e))

no_spent : (passes : List DecoderView) (file : ℕ) → total (λ pass. one_if (spent_of pass file)) passes ≡ 0 → spent_in passes file ≡ None
no_spent [] file e = refl
no_spent (pass ∷ passes) file e = by (spent_of pass file) e (no_spent passes file)
  where
    by : (own : Option ℕ) → one_if own + total (λ pass. one_if (spent_of pass file)) passes ≡ 0
        → (total (λ pass. one_if (spent_of pass file)) passes ≡ 0 → spent_in passes file ≡ None) → or_else own (spent_in passes file) ≡ None
    by None e rest = rest (omega (arith, e))
    by (Some spent) e rest = absurd (omega (arith, e))

page_parts : (pass : DecoderView) (passes : List DecoderView) (page : ℕ) → total (λ p. one_page (page_of p page)) (pass ∷ passes) ≤ 1
    → decisions_of (state_in (pass ∷ passes) page) ≡ decisions_of (page_of pass page) + decisions_of (state_in passes page)
page_parts pass passes page alone = by (page_of pass page) alone
  where
    by : (own : Option PageState) → one_page own + total (λ p. one_page (page_of p page)) passes ≤ 1
        → decisions_of (or_else own (state_in passes page)) ≡ decisions_of own + decisions_of (state_in passes page)
    by None alone = omega arith
    by (Some state) alone =
        let none : decisions_of (state_in passes page) ≡ 0 = ap decisions_of (no_state passes page (omega (arith, alone))) in
        omega (arith, none)

file_parts : (pass : DecoderView) (passes : List DecoderView) (file : ℕ) → total (λ p. one_if (spent_of p file)) (pass ∷ passes) ≤ 1
    → spent_on (spent_in (pass ∷ passes) file) ≡ spent_on (spent_of pass file) + spent_on (spent_in passes file)
file_parts pass passes file once = by (spent_of pass file) once
  where
    by : (own : Option ℕ) → one_if own + total (λ p. one_if (spent_of p file)) passes ≤ 1
        → spent_on (or_else own (spent_in passes file)) ≡ spent_on own + spent_on (spent_in passes file)
    by None once = omega arith
    by (Some spent) once =
        let none : spent_on (spent_in passes file) ≡ 0 = ap spent_on (no_spent passes file (omega (arith, once))) in
        omega (arith, none)

-- a pass has a place for each page and for each file
pub record HasPlaces (setup : Setup) (pass : DecoderView) : Type 0 where
  pub pages : length pass.pages ≡ length setup.pages
  pub files : length pass.spent ≡ length setup.names

pub sums_add_up : (setup : Setup) (passes : List DecoderView) → All (HasPlaces setup) passes
    → ((page : ℕ) → total (λ pass. one_page (page_of pass page)) passes ≤ 1)
    → ((file : ℕ) → total (λ pass. one_if (spent_of pass file)) passes ≤ 1) → sum_by sum_of passes ≡ counted (counts_in setup passes)
sums_add_up setup [] places alone once =
    let pages = span_pages [] 0 setup.pages ∙ span_none 0 setup.pages in
    let files = span_files [] 0 setup.names ∙ span_none 0 setup.names in
    omega (arith, pages, files)
sums_add_up setup (pass ∷ passes) places alone once =
    let has = All-head (HasPlaces setup) pass passes places in
    let rest = sums_add_up setup passes (All-tail (HasPlaces setup) pass passes places) (λ page. let a = alone page in omega (arith, a))
    (λ file. let o = once file in omega (arith, o)) in
    let sums = sum_by-cons sum_of pass passes in
    let pages = span_pages (pass ∷ passes) 0 setup.pages in
    let pages_rest = span_pages passes 0 setup.pages in
    let pages_both = span_both (λ k. decisions_of (state_in (pass ∷ passes) k)) (λ k. decisions_of (page_of pass k))
    (λ k. decisions_of (state_in passes k)) 0 setup.pages (λ k. page_parts pass passes k (alone k)) in
    let pages_own = span_items decisions_of pass.pages setup.pages 0 (λ k. decisions_of (page_of pass k))
    (λ k. let same : 0 + k ≡ k = omega arith in ap (λ n. decisions_of (page_of pass n)) same) has.pages in
    let files = span_files (pass ∷ passes) 0 setup.names in
    let files_rest = span_files passes 0 setup.names in
    let files_both = span_both (λ k. spent_on (spent_in (pass ∷ passes) k)) (λ k. spent_on (spent_of pass k))
    (λ k. spent_on (spent_in passes k)) 0 setup.names (λ k. file_parts pass passes k (once k)) in
    let files_own = span_items spent_on pass.spent setup.names 0 (λ k. spent_on (spent_of pass k))
    (λ k. let same : 0 + k ≡ k = omega arith in ap (λ n. spent_on (spent_of pass n)) same) has.files in
    omega (arith, rest, sums, pages, pages_rest, pages_both, pages_own, files, files_rest, files_both, files_own)
