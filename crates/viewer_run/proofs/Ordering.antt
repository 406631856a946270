-- The order in which files are read.
use Rattle.std.proofs.Common.{◌≡◌, ℕ, zero, suc, ◌+◌, ◌-◌, ◌≤◌, Bool, true, false, cond, ◌||◌, ◌==◌, Option, Some, None, List, [], ◌∷◌, ◌++◌, length, refl, sym, ap, ◌∙◌, arith}
use Rattle.std.proofs.lemmas.Bool.{true≢false}
use Rattle.djvu_base.specs.Library.{Library}
use Rattle.zp_table.specs.declared.rows.Row.{Row}
use Rattle.include_graph.specs.Verdicts.{is_among}
use Rattle.page_decoder.specs.Libraries.{run}
use Rattle.viewer_run.specs.Reads.{after_reading, needed_by, and_needed, and_next, and_its_needs, and_page, and_pages}

-- a file that is among some stays so when more come behind
pub among_more : (file : ℕ) (xs ys : List ℕ) → is_among file xs ≡ true → is_among file (xs ++ ys) ≡ true
among_more file [] ys e = absurd (true≢false (sym e))
among_more file (x ∷ xs) ys e = by (file == x) refl e (among_more file xs ys)
  where
    by : (t : Bool) → (file == x) ≡ t → (t || is_among file xs) ≡ true → (is_among file xs ≡ true → is_among file (xs ++ ys) ≡ true)
        → ((file == x) || is_among file (xs ++ ys)) ≡ true
    by true h e more = ap (λ b. b || is_among file (xs ++ ys)) h
    by false h e more = ap (λ b. b || is_among file (xs ++ ys)) h ∙ more e

needed_more : (file : ℕ) (read : List ℕ) (need : Option ℕ) → is_among file read ≡ true → is_among file (and_needed read need) ≡ true
needed_more file read None e = e
needed_more file read (Some next) e = among_more file read (next ∷ []) e

pub needs_more : (rows : List Row) (library : Library) (page count file : ℕ) (read : List ℕ) → is_among file read ≡ true
    → is_among file (and_its_needs rows library page count read) ≡ true
needs_more rows library page zero file read e = e
needs_more rows library page (suc count) file read e =
    needs_more rows library page count file (and_next rows library page read)
    (needed_more file read (needed_by (run rows (after_reading read library) page).end) e)

pub page_more : (page file : ℕ) (read : List ℕ) → is_among file read ≡ true → is_among file (and_page page read) ≡ true
page_more page file read e = by (is_among page read)
  where
    by : (t : Bool) → is_among file (cond t read (read ++ page ∷ [])) ≡ true
    by true = e
    by false = among_more file read (page ∷ []) e

pub pages_more : (rows : List Row) (library : Library) (pages : List ℕ) (file : ℕ) (read : List ℕ) → is_among file read ≡ true
    → is_among file (and_pages rows library pages read) ≡ true
pages_more rows library [] file read e = e
pages_more rows library (page ∷ pages) file read e =
    pages_more rows library pages file (and_its_needs rows library page (length library) (and_page page read))
    (needs_more rows library page (length library) file (and_page page read) (page_more page file read e))

-- needs one after the other
pub needs_both : (rows : List Row) (library : Library) (page first more : ℕ) (read : List ℕ)
    → and_its_needs rows library page (first + more) read ≡ and_its_needs rows library page more (and_its_needs rows library page first read)
needs_both rows library page zero more read = ap (λ n. and_its_needs rows library page n read) (zero_so more)
  where
    zero_so : (n : ℕ) → zero + n ≡ n
    zero_so n = omega arith
needs_both rows library page (suc first) more read =
    ap (λ n. and_its_needs rows library page n read) (suc_so first more) ∙ needs_both rows library page first more (and_next rows library page read)
  where
    suc_so : (a b : ℕ) → suc a + b ≡ suc (a + b)
    suc_so a b = omega arith

-- one more need
pub one_need : (rows : List Row) (library : Library) (page count file : ℕ) (read now : List ℕ) → now ≡ and_its_needs rows library page count read
    → needed_by (run rows (after_reading now library) page).end ≡ Some file
    → (now ++ file ∷ []) ≡ and_its_needs rows library page (count + 1) read
one_need rows library page count file read now is need =
    sym (needs_both rows library page count 1 read ∙ ap (λ l. and_its_needs rows library page 1 l) (sym is) ∙ ap (and_needed now) need)

-- where nothing is needed any more, further needs change nothing
pub no_need : (rows : List Row) (library : Library) (page more : ℕ) (read : List ℕ) → needed_by (run rows (after_reading read library) page).end ≡ None
    → and_its_needs rows library page more read ≡ read
no_need rows library page zero read none = refl
no_need rows library page (suc more) read none =
    ap (λ l. and_its_needs rows library page more l) (ap (and_needed read) none) ∙ no_need rows library page more read none

-- pages after others
pub pages_append : (rows : List Row) (library : Library) (first more : List ℕ) (read : List ℕ)
    → and_pages rows library (first ++ more) read ≡ and_pages rows library more (and_pages rows library first read)
pages_append rows library [] more read = refl
pages_append rows library (page ∷ first) more read =
    pages_append rows library first more (and_its_needs rows library page (length library) (and_page page read))

-- where a page needs at most so many, that many hold all of its needs
pub needs_within : (rows : List Row) (library : Library) (page few many file : ℕ) (read : List ℕ) → few ≤ many
    → is_among file (and_its_needs rows library page few read) ≡ true → is_among file (and_its_needs rows library page many read) ≡ true
needs_within rows library page few many file read le e =
    let sum : many ≡ few + (many - few) = omega (arith, le) in
    ap (λ n. is_among file (and_its_needs rows library page n read)) sum
    ∙ ap (is_among file) (needs_both rows library page few (many - few) read)
    ∙ needs_more rows library page (many - few) file (and_its_needs rows library page few read) e

-- and where it needs no more after so many, they are all
pub needs_all : (rows : List Row) (library : Library) (page few many : ℕ) (read now : List ℕ) → few ≤ many
    → and_its_needs rows library page few read ≡ now → needed_by (run rows (after_reading now library) page).end ≡ None
    → and_its_needs rows library page many read ≡ now
needs_all rows library page few many read now le is none =
    let sum : many ≡ few + (many - few) = omega (arith, le) in
    ap (λ n. and_its_needs rows library page n read) sum ∙ needs_both rows library page few (many - few) read
    ∙ ap (and_its_needs rows library page (many - few)) is ∙ no_need rows library page (many - few) now none
