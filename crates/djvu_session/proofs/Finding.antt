-- Pages and files among passes: which pass has a page's state, or claimed a file.
use Rattle.std.proofs.Common.{◌≡◌, ◌<◌, ◌+◌, ℕ, zero, suc, Option, Some, None, List, [], ◌∷◌, length, refl, sym, ap, ◌∙◌, arith}
use Rattle.std.specs.Prelude.{slice_get, All}
use Rattle.std.proofs.lemmas.List.Elements.{All-head, All-tail}
use Rattle.std.proofs.lemmas.Option.{slice_get_within}
use Rattle.once_board.specs.Numbers.{total}
use Rattle.replay_core.specs.Counts.{PageCount, files_of}
use Rattle.djvu_session.specs.Passes.{PageState, DecoderView, item, page_of, spent_of}
use Rattle.djvu_session.specs.Spent.{decisions_of, one_if}
use Rattle.djvu_session.specs.Everyone.{or_else, state_in, spent_in, page_counts, file_counts}

-- the pass that claimed a file, and the one whose own a page is

pub record Claims (Q : DecoderView → Type 0) (file spent : ℕ) : Type 0 where
  pub pass : DecoderView
  pub holds : Q pass
  pub is : spent_of pass file ≡ Some spent

pub find_spent : (Q : DecoderView → Type 0) (passes : List DecoderView) (file spent : ℕ) → All Q passes → spent_in passes file ≡ Some spent
    → Claims Q file spent
find_spent Q [] file spent all e = absurd (let wrong : None ≡ Some spent = e in cc)
find_spent Q (pass ∷ passes) file spent all e = by (spent_of pass file) refl e (find_spent Q passes file spent (All-tail Q pass passes all))
  where
    by : (own : Option ℕ) → spent_of pass file ≡ own → or_else own (spent_in passes file) ≡ Some spent
        → (spent_in passes file ≡ Some spent → Claims Q file spent) → Claims Q file spent
    by None is later rest = rest later
    by (Some n) is now rest = record { pass = pass; holds = All-head Q pass passes all; is = is ∙ now }

pub record Owns (Q : DecoderView → Type 0) (page : ℕ) (state : PageState) : Type 0 where
  pub pass : DecoderView
  pub holds : Q pass
  pub is : page_of pass page ≡ Some state

pub find_state : (Q : DecoderView → Type 0) (passes : List DecoderView) (page : ℕ) (state : PageState) → All Q passes → state_in passes page ≡ Some state
    → Owns Q page state
find_state Q [] page state all e = absurd (let wrong : None ≡ Some state = e in cc)
find_state Q (pass ∷ passes) page state all e = by (page_of pass page) refl e (find_state Q passes page state (All-tail Q pass passes all))
  where
    by : (own : Option PageState) → page_of pass page ≡ own → or_else own (state_in passes page) ≡ Some state
        → (state_in passes page ≡ Some state → Owns Q page state) → Owns Q page state
    by None is later rest = rest later
    by (Some it) is now rest = record { pass = pass; holds = All-head Q pass passes all; is = is ∙ now }

-- where one of them claimed the file, so many decisions were read
pub some_spent : (passes : List DecoderView) (file : ℕ) → total (λ pass. one_if (spent_of pass file)) passes ≡ 1
    → (spent : ℕ) × (spent_in passes file ≡ Some spent)
some_spent [] file e = absurd (omega (arith, e))
some_spent (pass ∷ passes) file e = by (spent_of pass file) e (some_spent passes file)
  where
    by : (own : Option ℕ) → one_if own + total (λ pass. one_if (spent_of pass file)) passes ≡ 1
        → (total (λ pass. one_if (spent_of pass file)) passes ≡ 1 → (spent : ℕ) × (spent_in passes file ≡ Some spent))
        → (spent : ℕ) × (or_else own (spent_in passes file) ≡ Some spent)
    by None e rest = rest (omega (arith, e))
    by (Some n) e rest = (n, refl)

-- ---- counts of pages and of files, by their numbers

record PageAt (passes : List DecoderView) (from number : ℕ) (files : List ℕ) (page : PageCount) : Type 0 where
  pub file : slice_get files number ≡ Some page.file
  pub decisions : page.decisions ≡ decisions_of (state_in passes (from + number))

page_at : (passes : List DecoderView) (from : ℕ) (files : List ℕ) (number : ℕ) (page : PageCount)
    → slice_get (page_counts passes from files) number ≡ Some page → PageAt passes from number files page
page_at passes from [] number page e = absurd (let wrong : None ≡ Some page = e in cc)
page_at passes from (file ∷ files) zero page e =
    let same : record { file = file; decisions = decisions_of (state_in passes from) } ≡ page = cc in
    let there : from ≡ from + zero = omega arith in
    record {
      file = ap (λ (p : PageCount). Some p.file) same;
      decisions = sym (ap (λ (p : PageCount). p.decisions) same) ∙ ap (λ n. decisions_of (state_in passes n)) there;
    }
page_at passes from (file ∷ files) (suc number) page e =
    let rest = page_at passes (suc from) files number page e in
    let there : suc from + number ≡ from + suc number = omega arith in
    record { file = rest.file; decisions = rest.decisions ∙ ap (λ n. decisions_of (state_in passes n)) there }

-- and from the first page on
pub first_page_at : (passes : List DecoderView) (files : List ℕ) (number : ℕ) (page : PageCount) → slice_get (page_counts passes 0 files) number ≡ Some page
    → (slice_get files number ≡ Some page.file) × (page.decisions ≡ decisions_of (state_in passes number))
first_page_at passes files number page e =
    let at = page_at passes 0 files number page e in
    let there : 0 + number ≡ number = omega arith in
    (at.file, at.decisions ∙ ap (λ n. decisions_of (state_in passes n)) there)

file_at_number : (passes : List DecoderView) (from : ℕ) (names : List (List ℕ)) (number : ℕ) (it : Option ℕ)
    → slice_get (file_counts passes from names) number ≡ Some it → it ≡ spent_in passes (from + number)
file_at_number passes from [] number it e = absurd (let wrong : None ≡ Some it = e in cc)
file_at_number passes from (name ∷ names) zero it e =
    let same : spent_in passes from ≡ it = cc in
    let there : from ≡ from + zero = omega arith in
    sym same ∙ ap (spent_in passes) there
file_at_number passes from (name ∷ names) (suc number) it e =
    let there : suc from + number ≡ from + suc number = omega arith in
    file_at_number passes (suc from) names number it e ∙ ap (spent_in passes) there

pub first_file_at : (passes : List DecoderView) (names : List (List ℕ)) (number : ℕ) (it : Option ℕ)
    → slice_get (file_counts passes 0 names) number ≡ Some it → it ≡ spent_in passes number
first_file_at passes names number it e =
    let there : 0 + number ≡ number = omega arith in
    file_at_number passes 0 names number it e ∙ ap (spent_in passes) there

pub files_are : (passes : List DecoderView) (from : ℕ) (files : List ℕ) → files_of (page_counts passes from files) ≡ files
files_are passes from [] = refl
files_are passes from (file ∷ files) = ap (λ l. file ∷ l) (files_are passes (suc from) files)

pub length_counts : (passes : List DecoderView) (from : ℕ) (names : List (List ℕ)) → length (file_counts passes from names) ≡ length names
length_counts passes from [] = refl
length_counts passes from (name ∷ names) = ap suc (length_counts passes (suc from) names)

-- a page's state stands below the number of its list
pub state_inside : (pages : List (Option PageState)) (page : ℕ) (state : PageState) → item (slice_get pages page) ≡ Some state → page < length pages
state_inside pages page state e = by (slice_get pages page) refl e
  where
    by : (it : Option (Option PageState)) → slice_get pages page ≡ it → item it ≡ Some state → page < length pages
    by None is e = absurd (let wrong : None ≡ Some state = e in cc)
    by (Some own) is e = slice_get_within pages page own is
