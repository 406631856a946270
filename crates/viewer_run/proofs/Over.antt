-- Pages that are over: what is put for them stays.
use Rattle.std.proofs.Common.{◌≡◌, ℕ, zero, suc, Bool, true, false, ◌||◌, Option, Some, None, List, [], ◌∷◌, ◌++◌, refl, sym, ap, ◌∙◌, subst}
use Rattle.std.specs.Prelude.{⊤, is_some, slice_get}
use Rattle.std.proofs.lemmas.List.{append-nil}
use Rattle.djvu_base.specs.declared.faults.Fault.{Fault}
use Rattle.djvu_base.specs.Library.{Library}
use Rattle.layer_compose.specs.declared.layers.Layers.{Layers}
use Rattle.zp_table.specs.declared.rows.Row.{Row}
use Rattle.page_decoder.specs.PageRead.{PageRead, notices_of}
use Rattle.page_decoder.specs.Libraries.{names_in, shown_by, run, page_in, LibraryGoesOn}
use Rattle.page_decoder.specs.Needs.{IsOver}
use Rattle.replay_core.specs.Machine.{page_notices}
use Rattle.viewer_words.specs.Lines.{name_at}
use Rattle.viewer_run.specs.declared.texts.PageFound.{PageFound}
use Rattle.viewer_run.specs.CoreRun.{IsDrawnSo}
use Rattle.viewer_run.specs.Found.{shown_found}
use Rattle.viewer_run.specs.Offline.{texts_of_pages}
use Rattle.viewer_run.specs.Texts.{Texts, no_texts, joined, lines_of, texts_at, texts_of_page}
use Rattle.viewer_run.proofs.Joining.{joined_assoc}

-- what is put for a page with this reading
abbrev texts_by : List (List ℕ) → ℕ → PageRead → Texts
texts_by names page read =
    texts_at names (name_at names page) (lines_of (name_at names page) (notices_of read.left.told)) (shown_by read.end read.left.decoded.layers)

-- each of these pages is over
abbrev pub AllOverIn : List Row → Library → List ℕ → Type 0
AllOverIn rows library [] = ⊤
AllOverIn rows library (page ∷ pages) = IsOver (run rows library page).end × AllOverIn rows library pages

module _ (rows : List Row) (library later : Library) (names : names_in library ≡ names_in later)
    (over : (page : ℕ) → IsOver (run rows library page).end → run rows later page ≡ run rows library page) where
  pub text_stays : (page : ℕ) → IsOver (run rows library page).end → texts_of_page rows later page ≡ texts_of_page rows library page
  text_stays page is = ap (λ l. texts_by l page (run rows later page)) (sym names) ∙ ap (texts_by (names_in library) page) (over page is)

  pub texts_stay : (pages : List ℕ) → AllOverIn rows library pages
      → texts_of_pages (texts_of_page rows later) pages ≡ texts_of_pages (texts_of_page rows library) pages
  texts_stay [] all = refl
  texts_stay (page ∷ pages) all =
      ap (λ t. joined t (texts_of_pages (texts_of_page rows later) pages)) (text_stays page all.0)
      ∙ ap (joined (texts_of_page rows library page)) (texts_stay pages all.1)

  pub over_stays : (pages : List ℕ) → AllOverIn rows library pages → AllOverIn rows later pages
  over_stays [] all = tt
  over_stays (page ∷ pages) all = (subst (λ (r : PageRead). IsOver r.end) (sym (over page all.0)) all.0, over_stays pages all.1)

pub over_at : (rows : List Row) (library : Library) (pages : List ℕ) (number page : ℕ) → AllOverIn rows library pages → slice_get pages number ≡ Some page
    → IsOver (run rows library page).end
over_at rows library [] number page all e = cc
over_at rows library (first ∷ pages) zero page all e = let same : first ≡ page = cc in subst (λ p. IsOver (run rows library p).end) same all.0
over_at rows library (first ∷ pages) (suc number) page all e = over_at rows library pages number page all.1 e

pub over_append : (rows : List Row) (library : Library) (xs ys : List ℕ) → AllOverIn rows library xs → AllOverIn rows library ys
    → AllOverIn rows library (xs ++ ys)
over_append rows library [] ys all more = more
over_append rows library (page ∷ xs) ys all more = (all.0, over_append rows library xs ys all.1 more)

-- ---- pages after others

pub texts_append : (texts : ℕ → Texts) (xs ys : List ℕ) → texts_of_pages texts (xs ++ ys) ≡ joined (texts_of_pages texts xs) (texts_of_pages texts ys)
texts_append texts [] ys = refl
texts_append texts (page ∷ xs) ys =
    ap (joined (texts page)) (texts_append texts xs ys) ∙ joined_assoc (texts page) (texts_of_pages texts xs) (texts_of_pages texts ys)

pub joined_none : (texts : Texts) → joined texts no_texts ≡ texts
joined_none texts =
    ap (λ p. let it : Texts = record { puts = p; refused = texts.refused || false } in it) (append-nil texts.puts)
    ∙ ap (λ r. let it : Texts = record { puts = texts.puts; refused = r } in it) (or_false texts.refused)
  where
    or_false : (b : Bool) → (b || false) ≡ b
    or_false true = refl
    or_false false = refl

-- one page more
pub texts_push : (texts : ℕ → Texts) (xs : List ℕ) (page : ℕ) → texts_of_pages texts (xs ++ page ∷ []) ≡ joined (texts_of_pages texts xs) (texts page)
texts_push texts xs page = texts_append texts xs (page ∷ []) ∙ ap (joined (texts_of_pages texts xs)) (joined_none (texts page))

-- ---- a page that was drawn to its end

-- the names of a library stay where it goes on
pub names_go_on : (library later : Library) → LibraryGoesOn library later → names_in library ≡ names_in later
names_go_on [] [] goes_on = refl
names_go_on [] (after ∷ later) goes_on = absurd goes_on
names_go_on (before ∷ library) [] goes_on = absurd goes_on
names_go_on (before ∷ library) (after ∷ later) goes_on =
    ap (λ n. n ∷ names_in library) goes_on.0.name ∙ ap (λ l. after.name ∷ l) (names_go_on library later goes_on.1)

-- what is put for it is what the definition says
pub drawn_texts : (rows : List Row) (library : Library) (page : ℕ) (names : List (List ℕ)) (name lines : List ℕ) (found : PageFound)
    → names_in library ≡ names → name ≡ name_at names page → IsDrawnSo rows page names library lines found
    → texts_at names name lines (shown_found found.fault found.layers) ≡ texts_of_page rows library page
drawn_texts rows library page names name lines found same is drawn =
    let notices = page_notices rows library page in
    ap (λ n. texts_at names n lines (shown_found found.fault found.layers)) is
    ∙ ap (λ l. texts_at names (name_at names page) l (shown_found found.fault found.layers)) drawn.lines_so
    ∙ ap (texts_at names (name_at names page) (lines_of (name_at names page) notices)) drawn.shown
    ∙ ap (λ l. texts_at l (name_at l page) (lines_of (name_at l page) notices) (page_in rows library page)) (sym same)

-- it is refused where it has a fault
pub found_refused : (names : List (List ℕ)) (name lines : List ℕ) (fault : Option Fault) (layers : Option Layers)
    → (texts_at names name lines (shown_found fault layers)).refused ≡ is_some fault
found_refused names name lines None None = refl
found_refused names name lines None (Some layers) = refl
found_refused names name lines (Some fault) layers = refl
