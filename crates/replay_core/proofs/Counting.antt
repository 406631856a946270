-- Sums over pages and files, item by item.
use Rattle.std.proofs.Common.{◌≡◌, ◌≤◌, ◌+◌, ℕ, zero, suc, Bool, true, false, cond, Option, Some, None, List, [], ◌∷◌, length, refl, sym, ap, ◌∙◌, subst, arith}
use Rattle.std.specs.Prelude.{slice_get, sum_by}
use Rattle.std.specs.List.{list_any, range_with_len}
use Rattle.std.proofs.lemmas.List.Sums.{sum_by-cons}
use Rattle.std.proofs.lemmas.List.Folds.{Any-from_list_any, list_any-from_Any}
use Rattle.djvu_base.specs.Library.{Library}
use Rattle.zp_table.specs.declared.rows.Row.{Row}
use Rattle.page_decoder.specs.Read.{FileDone}
use Rattle.page_decoder.specs.Libraries.{run, res_of, is_reached, file_work, work_of, LibraryGoesOn}
use Rattle.replay_core.specs.Counts.{PageCount, Counts, files_of, spent_on, counted, CountsWithin, CountsAll}

-- two lists of one length, whose items have these sums
pages_most : (count : ℕ → ℕ) (pages : List PageCount)
    → ((number : ℕ) (page : PageCount) → slice_get pages number ≡ Some page → page.decisions ≤ count page.file)
    → sum_by (λ (page : PageCount). page.decisions) pages ≤ sum_by count (files_of pages)
pages_most count [] within = omega arith
pages_most count (page ∷ pages) within =
    let first = within zero page refl in
    let rest = pages_most count pages (λ number. within (suc number)) in
    let few = sum_by-cons (λ (p : PageCount). p.decisions) page pages in
    let many = sum_by-cons count page.file (files_of pages) in
    omega (arith, first, rest, few, many)

pages_least : (count : ℕ → ℕ) (pages : List PageCount)
    → ((number : ℕ) (page : PageCount) → slice_get pages number ≡ Some page → count page.file ≤ page.decisions)
    → sum_by count (files_of pages) ≤ sum_by (λ (page : PageCount). page.decisions) pages
pages_least count [] within = omega arith
pages_least count (page ∷ pages) within =
    let first = within zero page refl in
    let rest = pages_least count pages (λ number. within (suc number)) in
    let few = sum_by-cons (λ (p : PageCount). p.decisions) page pages in
    let many = sum_by-cons count page.file (files_of pages) in
    omega (arith, first, rest, few, many)

files_most : (count : ℕ → ℕ) (files : List (Option ℕ)) (from : ℕ) → ((number : ℕ) (it : Option ℕ) → slice_get files number ≡ Some it
    → spent_on it ≤ count (from + number)) → sum_by spent_on files ≤ sum_by count (range_with_len from (length files))
files_most count [] from within = omega arith
files_most count (it ∷ files) from within =
    let first : spent_on it ≤ count from = subst (λ n. spent_on it ≤ count n) (omega arith) (within zero it refl) in
    let rest = files_most count files (from + 1) (λ number other e. subst (λ n. spent_on other ≤ count n) (omega arith) (within (suc number) other e)) in
    let few = sum_by-cons spent_on it files in
    let many = sum_by-cons count from (range_with_len (from + 1) (length files)) in
    omega (arith, first, rest, few, many)

files_least : (count : ℕ → ℕ) (files : List (Option ℕ)) (from : ℕ) → ((number : ℕ) (it : Option ℕ) → slice_get files number ≡ Some it
    → count (from + number) ≤ spent_on it) → sum_by count (range_with_len from (length files)) ≤ sum_by spent_on files
files_least count [] from within = omega arith
files_least count (it ∷ files) from within =
    let first : count from ≤ spent_on it = subst (λ n. count n ≤ spent_on it) (omega arith) (within zero it refl) in
    let rest = files_least count files (from + 1) (λ number other e. subst (λ n. count n ≤ spent_on other) (omega arith) (within (suc number) other e)) in
    let few = sum_by-cons spent_on it files in
    let many = sum_by-cons count from (range_with_len (from + 1) (length files)) in
    omega (arith, first, rest, few, many)

-- of one file
reached_work : (is_it : Bool) (decisions most : ℕ) → is_it ≡ true → decisions ≤ most → decisions ≤ cond is_it most 0
reached_work true decisions most is le = le
reached_work false decisions most is le = absurd (let wrong : false ≡ true = is in cc)

one_most : (table : List Row) (library : Library) (counts : Counts) → CountsWithin table library counts
    → (file : ℕ) (it : Option ℕ) → slice_get counts.files file ≡ Some it → spent_on it ≤ file_work table library (files_of counts.pages) file
one_most table library counts within file None e = omega arith
one_most table library counts within file (Some decisions) e =
    reached_work (list_any (is_reached table library file) (files_of counts.pages)) decisions (res_of table library file).decisions
    (within.reached file decisions e) (within.spent file decisions e)

one_least : (table : List Row) (library : Library) (counts : Counts) → CountsAll table library counts
    → (file : ℕ) (it : Option ℕ) → slice_get counts.files file ≡ Some it → file_work table library (files_of counts.pages) file ≤ spent_on it
one_least table library counts all file it e = by (list_any (is_reached table library file) (files_of counts.pages)) refl
  where
    by : (is_it : Bool) → list_any (is_reached table library file) (files_of counts.pages) ≡ is_it
        → cond is_it (res_of table library file).decisions 0 ≤ spent_on it
    by false is = omega arith
    by true is = subst (λ o. (res_of table library file).decisions ≤ spent_on o) (sym (all.reached file it e is)) (omega arith)

pub counts_most : (table : List Row) (library : Library) (counts : Counts) → CountsWithin table library counts
    → counted counts ≤ work_of table library (files_of counts.pages)
counts_most table library counts within =
    let own = pages_most (λ file. (run table library file).left.told.decisions) counts.pages within.own in
    let below = files_most (file_work table library (files_of counts.pages)) counts.files 0
    (λ file it e. subst (λ n. spent_on it ≤ file_work table library (files_of counts.pages) n) (omega arith)
    (one_most table library counts within file it e)) in
    subst (λ n. counted counts ≤ sum_by (λ file. (run table library file).left.told.decisions) (files_of counts.pages)
    + sum_by (file_work table library (files_of counts.pages)) (range_with_len 0 n)) within.places (omega (arith, own, below))

pub counts_least : (table : List Row) (library : Library) (counts : Counts) → length counts.files ≡ length library
    → CountsAll table library counts → work_of table library (files_of counts.pages) ≤ counted counts
counts_least table library counts places all =
    let own = pages_least (λ file. (run table library file).left.told.decisions) counts.pages
    (λ number page e. let same = all.own number page e in omega (arith, same)) in
    let below = files_least (file_work table library (files_of counts.pages)) counts.files 0
    (λ file it e. subst (λ n. file_work table library (files_of counts.pages) n ≤ spent_on it) (omega arith) (one_least table library counts all file it e)) in
    subst (λ n. sum_by (λ file. (run table library file).left.told.decisions) (files_of counts.pages)
    + sum_by (file_work table library (files_of counts.pages)) (range_with_len 0 n) ≤ counted counts) places (omega (arith, own, below))

-- ---- a library that goes on

same_length : (library later : Library) → LibraryGoesOn library later → length library ≡ length later
same_length [] [] on = refl
same_length [] (file ∷ later) on = absurd on
same_length (file ∷ library) [] on = absurd on
same_length (before ∷ library) (after ∷ later) on = ap suc (same_length library later on.1)

abbrev pub ReachedStay : List Row → Library → Library → Type 0
ReachedStay table library later = (file page : ℕ) → is_reached table library file page ≡ true
    → (is_reached table later file page ≡ true) × (res_of table library file ≡ res_of table later file)

pub stay_within : (table : List Row) (library later : Library) (counts : Counts) → LibraryGoesOn library later
    → ((page : ℕ) → (run table library page).left.told.decisions ≤ (run table later page).left.told.decisions) → ReachedStay table library later
    → CountsWithin table library counts → CountsWithin table later counts
stay_within table library later counts on more stay within = record {
  places = within.places ∙ same_length library later on;
  own = λ number page e. let less = within.own number page e in let rises = more page.file in omega (arith, less, rises);
  reached = λ file decisions e.
      let page = Any-from_list_any (is_reached table library file) (files_of counts.pages) (within.reached file decisions e) in
      list_any-from_Any (is_reached table later file) (files_of counts.pages) (page.0, page.1, page.2, page.3, (stay file page.1 page.4).0);
  spent = λ file decisions e.
      let page = Any-from_list_any (is_reached table library file) (files_of counts.pages) (within.reached file decisions e) in
      subst (λ (done : FileDone). decisions ≤ done.decisions) (stay file page.1 page.4).1 (within.spent file decisions e);
}
