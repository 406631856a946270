-- What statuses say.
use Rattle.std.proofs.Common.{◌≡◌, ◌≢◌, ◌↔◌, ℕ, zero, suc, Bool, true, false, ◌||◌, Option, Some, None, List, [], ◌∷◌, take, inl, inr, refl, sym, ap, ◌∙◌, subst, arith, ◌<◌, ◌≤◌, length}
use Rattle.std.specs.Prelude.{slice_get}
use Rattle.std.proofs.lemmas.Bool.{true≢false}
use Rattle.djvu_base.specs.Library.{File, Files, Library, Whole, library_within, library_of, file_limit}
use Rattle.djvu_outside.specs.Faults.{Failure}
use Rattle.djvu_outside.specs.Cut.{cut}
use Rattle.zp_table.specs.declared.rows.Row.{Row}
use Rattle.iff_chunks.specs.Chunks.{Chunk, Tail, InHead, InHeader, InData, InPad, FormEnd, Broken, chunks_of, end_of}
use Rattle.iff_chunks.specs.Ends.{file_end}
use Rattle.djvu_base.specs.Picture.{Picture}
use Rattle.page_decoder.specs.Given.{Given}
use Rattle.page_decoder.specs.PageRead.{PageRead}
use Rattle.page_decoder.specs.Read.{read}
use Rattle.page_decoder.specs.Libraries.{Shown, Drawn, Faulty, Unknown, names_in, bytes_in, mark_in, shown_by, run_end, run_given, page_in}
use Rattle.replay_core.specs.Machine.{page_notices, AllClosed}
use Rattle.viewer_words.specs.Lines.{name_at}
use Rattle.viewer_run.specs.Plan.{Plan, Refuses, Draws, Lists, plan_of}
use Rattle.viewer_run.specs.EarlyFailures.{front_may_fail, front_failed}
use Rattle.viewer_run.specs.Texts.{Texts, lines_of, texts_at, texts_of_page}
use Rattle.viewer_run.specs.Info.{has_fault, info_of_found, info_of_page}
use Rattle.viewer_run.specs.Offline.{Written, status_by, texts_of_pages, written_by, with_failures, IsOutcome}
use Rattle.viewer_run.specs.Statuses.{PageIsDrawn, PageIsListed, AllPages, AllShown, IsRefused}
use Rattle.viewer_run.proofs.Running.{written_is, sound_outcome}

or_none : (a b : Bool) → (a || b) ≡ false → (a ≡ false) × (b ≡ false)
or_none true b e = absurd (true≢false e)
or_none false b e = (refl, e)

none_or : (a b : Bool) → a ≡ false → b ≡ false → (a || b) ≡ false
none_or a b e f = ap (λ x. x || b) e ∙ f

-- pages of which none is refused
module _ (texts : ℕ → Texts) (IsShown : ℕ → Type 0) (shown : (page : ℕ) → (texts page).refused ≡ false → IsShown page)
    (back : (page : ℕ) → IsShown page → (texts page).refused ≡ false) where
  all_shown : (pages : List ℕ) → (texts_of_pages texts pages).refused ≡ false → AllPages IsShown pages
  all_shown [] e = tt
  all_shown (page ∷ pages) e = let both = or_none (texts page).refused (texts_of_pages texts pages).refused e in (shown page both.0, all_shown pages both.1)

  none_refused : (pages : List ℕ) → AllPages IsShown pages → (texts_of_pages texts pages).refused ≡ false
  none_refused [] h = refl
  none_refused (page ∷ pages) h = none_or (texts page).refused (texts_of_pages texts pages).refused (back page h.0) (none_refused pages h.1)

  pub by_status : (pages : List ℕ) → (status_by (texts_of_pages texts pages).refused ≡ 0) ↔ AllPages IsShown pages
  by_status pages = (λ e. all_shown pages (zero_means (texts_of_pages texts pages).refused e), λ h. ap status_by (none_refused pages h))
    where
      zero_means : (refused : Bool) → status_by refused ≡ 0 → refused ≡ false
      zero_means true e = cc
      zero_means false e = refl

-- the files of a folder's library are whole
whole_files : (limit : ℕ) (files : Files) (page : ℕ) (file : File) → slice_get (library_within limit files) page ≡ Some file → file.mark ≡ Whole
whole_files limit [] page file e = cc
whole_files limit (first ∷ files) zero file e =
    let here : File = record { name = first.0; bytes = take limit first.1; mark = Whole } in
    let same : here ≡ file = cc in sym (ap (λ (f : File). f.mark) same)
whole_files limit (first ∷ files) (suc page) file e = whole_files limit files page file e

inside_at : {A : Type 0} (list : List A) (at : ℕ) (it : A) → slice_get list at ≡ Some it → at < length list
inside_at [] at it e = cc
inside_at (first ∷ list) zero it e = omega arith
inside_at (first ∷ list) (suc at) it e = let rest = inside_at list at it e in omega (arith, rest)

closed_files : (files : Files) → AllClosed (library_of files)
closed_files files number file found is_open = let both = sym (whole_files file_limit files number file found) ∙ is_open in cc

is_drawn : (names : List (List ℕ)) (name lines : List ℕ) (shown : Shown) → shown ≢ Unknown → (texts_at names name lines shown).refused ≡ false
    → (picture : Picture) × (shown ≡ Drawn picture)
is_drawn names name lines (Drawn picture) known refused = (picture, refl)
is_drawn names name lines (Faulty fault) known refused = absurd (true≢false refused)
is_drawn names name lines Unknown known refused = absurd (known refl)

page_drawn : ((rows : List Row) (library : Library) (page : ℕ) → page < length library → AllClosed library → page_in rows library page ≢ Unknown)
    → (rows : List Row) (files : Files) (page : ℕ) → (texts_of_page rows (library_of files) page).refused ≡ false → PageIsDrawn rows (library_of files) page
page_drawn known rows files page refused inside =
    let library = library_of files in
    let names = names_in library in
    is_drawn names (name_at names page) (lines_of (name_at names page) (page_notices rows library page)) (page_in rows library page)
    (known rows library page inside (closed_files files)) refused

-- a page of which there is this file, or none
abbrev given_with : List Row → Library → ℕ → Option File → Given
given_with rows library page found = record {
  home = (run_given rows library page).home;
  known = (run_given rows library page).known;
  bytes = bytes_in found;
  mark = mark_in found;
}

abbrev refused_with : List Row → Library → ℕ → Option File → Bool
refused_with rows library page found =
    let names = names_in library in
    let its : PageRead = read (given_with rows library page found) in
    (texts_at names (name_at names page) (lines_of (name_at names page) (page_notices rows library page))
    (shown_by (run_end its.end) its.left.decoded.layers)).refused

drawn_unrefused : (rows : List Row) (library : Library) (page : ℕ) → PageIsDrawn rows library page → (texts_of_page rows library page).refused ≡ false
drawn_unrefused rows library page h = by (slice_get library page) refl
  where
    by : (found : Option File) → slice_get library page ≡ found → (texts_of_page rows library page).refused ≡ false
    by None e = subst (λ found. refused_with rows library page found ≡ false) (sym e) refl
    by (Some file) e =
        let names = names_in library in
        let lines = lines_of (name_at names page) (page_notices rows library page) in
        ap (λ shown. (texts_at names (name_at names page) lines shown).refused) (h (inside_at library page file e)).1

listed_by : (whole : List Chunk) (tail : Tail) → has_fault (end_of whole tail) ≡ false → end_of whole tail ≡ FormEnd
listed_by whole InHead e = absurd (true≢false e)
listed_by [] (InHeader offset []) e = absurd (true≢false e)
listed_by [] (InHeader offset (byte ∷ bytes)) e = absurd (true≢false e)
listed_by (chunk ∷ whole) (InHeader offset bytes) e = absurd (true≢false e)
listed_by whole (InData chunk) e = absurd (true≢false e)
listed_by whole (InPad offset true) e = refl
listed_by whole (InPad offset false) e = absurd (true≢false e)
listed_by whole FormEnd e = refl
listed_by whole (Broken kind offset) e = absurd (true≢false e)

page_listed : (files : Files) (page : ℕ) → (info_of_page (library_of files) page).refused ≡ false → PageIsListed (library_of files) page
page_listed files page refused file found =
    let whole = whole_files file_limit files page file found in
    let here : has_fault (file_end file.mark file.bytes) ≡ false =
    ap (λ f. (info_of_found (names_in (library_of files)) page f).refused) (sym found) ∙ refused in
    ap (λ m. file_end m file.bytes) whole
    ∙ listed_by (chunks_of file.bytes).whole (chunks_of file.bytes).tail (ap (λ m. has_fault (file_end m file.bytes)) (sym whole) ∙ here)

listed_unrefused : (library : Library) (page : ℕ) → PageIsListed library page → (info_of_page library page).refused ≡ false
listed_unrefused library page h = by (slice_get library page) refl
  where
    by : (found : Option File) → slice_get library page ≡ found → (info_of_found (names_in library) page found).refused ≡ false
    by None e = refl
    by (Some file) e = ap has_fault (h file e)

-- 0 exactly where all pages are shown
pub done : ((rows : List Row) (library : Library) (page : ℕ) → page < length library → AllClosed library → page_in rows library page ≢ Unknown)
    → (files : Files) (words : List (List ℕ)) (w : Written) → IsOutcome [] [] (library_of files) words w
    → (w.status ≡ 0) ↔ AllShown (library_of files) (plan_of (library_of files) words)
done is_known files words w outcome =
    subst (λ (v : Written). (v.status ≡ 0) ↔ AllShown (library_of files) (plan_of (library_of files) words))
    (sym (sound_outcome (library_of files) words w outcome)) (by (plan_of (library_of files) words))
  where
    by : (plan : Plan) → ((written_by (library_of files) plan).status ≡ 0) ↔ AllShown (library_of files) plan
    by (Refuses line) = (λ e. cc, λ h. absurd h)
    by (Draws rows pages) =
        by_status (texts_of_page rows (library_of files)) (PageIsDrawn rows (library_of files)) (page_drawn is_known rows files)
        (drawn_unrefused rows (library_of files)) pages
    by (Lists pages) =
        by_status (info_of_page (library_of files)) (PageIsListed (library_of files)) (page_listed files) (listed_unrefused (library_of files)) pages

no_two : (refused : Bool) → status_by refused ≡ 2 → ⊥
no_two true e = cc
no_two false e = cc

no_three : (refused : Bool) → status_by refused ≡ 3 → ⊥
no_three true e = cc
no_three false e = cc

status_sound : (library : Library) (plan : Plan) → (written_by library plan).status ≢ 3
status_sound library (Refuses line) e = cc
status_sound library (Draws rows pages) e = no_three (texts_of_pages (texts_of_page rows library) pages).refused e
status_sound library (Lists pages) e = no_three (texts_of_pages (info_of_page library) pages).refused e

-- 3 exactly where something failed
pub failed : (first all : List Failure) (library : Library) (words : List (List ℕ)) (w : Written) → IsOutcome first all library words w
    → (w.status ≡ 3) ↔ (all ≢ [])
failed first all library words w (inl early) = (λ e none. let both = sym early.1.1 ∙ none in cc, λ some. ap (λ (v : Written). v.status) early.2)
failed first all library words w (inr late) = by all (written_is (cut all library) (plan_of library words) all w late.2)
  where
    by : (all : List Failure) → w ≡ with_failures all (written_by (cut all library) (plan_of library words)) → (w.status ≡ 3) ↔ (all ≢ [])
    by [] e =
        (λ three. absurd (status_sound (cut [] library) (plan_of library words) (ap (λ (v : Written). v.status) (sym e) ∙ three)), λ some. absurd (some refl))
    by (entry ∷ entries) e = (λ three none. cc, λ some. ap (λ (v : Written). v.status) e)

-- 2 exactly where the run is refused, and nothing failed
pub refused : (first all : List Failure) (library : Library) (words : List (List ℕ)) (w : Written) → IsOutcome first all library words w
    → (w.status ≡ 2) ↔ ((all ≡ []) × IsRefused (plan_of library words))
refused first all library words w (inl early) =
    (λ two. let both = sym two ∙ ap (λ (v : Written). v.status) early.2 in cc, λ h. let both = sym early.1.1 ∙ h.0 in cc)
refused first all library words w (inr late) = by all (plan_of library words) (written_is (cut all library) (plan_of library words) all w late.2)
  where
    by : (all : List Failure) (plan : Plan) → w ≡ with_failures all (written_by (cut all library) plan) → (w.status ≡ 2) ↔ ((all ≡ []) × IsRefused plan)
    by [] (Refuses line) e = (λ two. (refl, tt), λ h. ap (λ (v : Written). v.status) e)
    by [] (Draws rows pages) e = (
      λ two. absurd (no_two (texts_of_pages (texts_of_page rows (cut [] library)) pages).refused (ap (λ (v : Written). v.status) (sym e) ∙ two)),
      λ h. absurd h.1,
    )
    by [] (Lists pages) e =
        (λ two. absurd (no_two (texts_of_pages (info_of_page (cut [] library)) pages).refused (ap (λ (v : Written). v.status) (sym e) ∙ two)), λ h. absurd h.1)
    by (entry ∷ entries) plan e = (λ two. let both = sym two ∙ ap (λ (v : Written). v.status) e in cc, λ h. let none = h.0 in cc)

-- one outcome, where it is known whether the front failed
pub one : (first all : List Failure) (library : Library) (words : List (List ℕ)) (a b : Written) → front_may_fail words first ≡ front_failed library words first
    → IsOutcome first all library words a → IsOutcome first all library words b → a ≡ b
one first all library words a b same (inl x) (inl y) = x.2 ∙ sym y.2
one first all library words a b same (inl x) (inr y) = absurd (true≢false (sym x.0 ∙ same ∙ y.0))
one first all library words a b same (inr x) (inl y) = absurd (true≢false (sym y.0 ∙ same ∙ x.0))
one first all library words a b same (inr x) (inr y) =
    written_is (cut all library) (plan_of library words) all a x.2 ∙ sym (written_is (cut all library) (plan_of library words) all b y.2)

least : (refused : Bool) → status_by refused ≤ 3
least true = omega arith
least false = omega arith

plan_below : (library : Library) (plan : Plan) → (written_by library plan).status ≤ 3
plan_below library (Refuses line) = omega arith
plan_below library (Draws rows pages) = least (texts_of_pages (texts_of_page rows library) pages).refused
plan_below library (Lists pages) = least (texts_of_pages (info_of_page library) pages).refused

pub below : (first all : List Failure) (library : Library) (words : List (List ℕ)) (w : Written) → IsOutcome first all library words w → w.status ≤ 3
below first all library words w (inl early) = subst (λ (v : Written). v.status ≤ 3) (sym early.2) (omega arith)
below first all library words w (inr late) = by all (written_is (cut all library) (plan_of library words) all w late.2)
  where
    by : (all : List Failure) → w ≡ with_failures all (written_by (cut all library) (plan_of library words)) → w.status ≤ 3
    by [] e = subst (λ (v : Written). v.status ≤ 3) (sym e) (plan_below (cut [] library) (plan_of library words))
    by (entry ∷ entries) e = subst (λ (v : Written). v.status ≤ 3) (sym e) (omega arith)
