-- How a core stands once one of its files changed, and with it the page that the file is.
use Rattle.std.proofs.Common.{◌≡◌, ◌<◌, ℕ, zero, suc, true, false, Option, Some, None, inl, inr, List, [], ◌∷◌, length, map, refl, sym, ap, ◌∙◌, subst, arith}
use Rattle.std.specs.Prelude.{slice_get, slice_set, get_or, is_some, option_map, Result as Answered, Ok, Err, IfOk, OnOk}
use Rattle.std.proofs.lemmas.List.{length-map}
use Rattle.std.proofs.lemmas.Option.{slice_get-map, slice_get_within, slice_get_read}
use Rattle.djvu_base.specs.Library.{Mark, Open, Whole, Broken, File, Library}
use Rattle.djvu_base.specs.declared.ends.FileEnd.{FileEnd}
use Rattle.djvu_base.specs.declared.ends.FileEnd.TheVariants as file_end
use Rattle.page_decoder.specs.FileReading.{mark_by}
use Rattle.zp_table.specs.declared.rows.Row.{Row}
use Rattle.jb2_records.specs.declared.results.FileResult.{FileResult}
use Rattle.page_decoder.specs.Results.{Result}
use Rattle.page_decoder.specs.Resolving.{given_at}
use Rattle.page_decoder.specs.Libraries.{FileGoesOn, LibraryGoesOn}
use Rattle.replay_core.specs.Counts.{Counts}
use Rattle.replay_core.specs.CoreFiles.{FilePart, FileStands, both}
use Rattle.replay_core.specs.CorePages.{PagePart, PageSeen, Fails, seen_of}
use Rattle.replay_core.specs.Core.{CoreParts, core_of, results_by, IsPlaced, IsPageOf, IsCore, StandsSo, OnlyFails}
use Rattle.djvu_base.specs.Announced.{Announced}
use Rattle.replay_core.specs.Machine.{State, Answer, Looked, change_at, fed_by, fed, ended_by, ended}
use Rattle.replay_core.proofs.Beginning.{item_there}
use Rattle.replay_core.proofs.Setting.{set_same}
use Rattle.replay_core.proofs.Listing.{some_same, changed_here, changed_apart, changed_nowhere, set_here, set_length}
use Rattle.replay_core.proofs.Listing.{AfterSet, is_set, is_other, after_set}
use Rattle.replay_core.proofs.Moving.{Same, changed_on}
use Rattle.replay_core.proofs.Lasting.{page_on}
use Rattle.replay_core.proofs.Placing.{core_put_open, seen_put}
use Rattle.replay_core.proofs.Standing.{CoreLaws, PageOn, grown}

-- the file that a changed one was
record Changed (change : File → File) (library : Library) (number : ℕ) (file : File) : Type 0 where
  pub before : File
  pub is_before : slice_get library number ≡ Some before
  pub is : file ≡ change before

changed_from : (change : File → File) (library : Library) (number : ℕ) (file : File) → slice_get (change_at change number library) number ≡ Some file
    → Changed change library number file
changed_from change library number file e = by (slice_get library number) refl
  where
    by : (found : Option File) → slice_get library number ≡ found → Changed change library number file
    by None is = absurd (let wrong : None ≡ Some file = sym (changed_nowhere change library number number is) ∙ e in cc)
    by (Some before) is = record {
      before = before;
      is_before = is;
      is = some_same file (change before) (sym e ∙ changed_here change library number before is);
    }

-- a file that doesn't change leaves the library as it is
pub unchanged : (change : File → File) (library : Library) (number : ℕ)
    → ((file : File) → slice_get library number ≡ Some file → change file ≡ file) → change_at change number library ≡ library
unchanged change [] number same = refl
unchanged change (file ∷ library) zero same = ap (λ f. f ∷ library) (same file refl)
unchanged change (file ∷ library) (suc number) same = ap (λ l. file ∷ l) (unchanged change library number same)

-- what a core keeps to, where one of its files changed
pub core_file : (names : List (List ℕ)) (parts : CoreParts) → IsCore names parts → (number : ℕ) (was is : FilePart)
    → slice_get parts.files number ≡ Some was → is.page ≡ was.page → (is.end ≡ None → was.end ≡ None)
    → IsCore names (record parts { files = slice_set parts.files number is })
core_file names parts it number was is is_was same_page still = record {
  ascending = it.ascending;
  few = it.few;
  files = set_length parts.files number is ∙ it.files;
  results = it.results;
  below = it.below;
  found = λ other page file e f. by_found other page file (after_set parts.files number is other file within e) f;
  placed = λ other page file e f. by_placed other page file e (after_set parts.files number is page.file file within f);
}
  where
    within : number < length parts.files
    within = slice_get_within parts.files number was is_was

    by_found : (other page : ℕ) (file : FilePart) → AfterSet parts.files number is other file → file.page ≡ Some page
        → IsPageOf parts.pages page other
    by_found other page file (is_set at same) f =
        subst (IsPageOf parts.pages page) (sym at)
        (it.found number page was is_was (sym same_page ∙ ap (λ (p : FilePart). p.page) (sym same) ∙ f))
    by_found other page file (is_other apart e) f = it.found other page file e f

    by_placed : (other : ℕ) (page : PagePart) (file : FilePart) → slice_get parts.pages other ≡ Some page
        → AfterSet parts.files number is page.file file → IsPlaced other page file
    by_placed other page file e (is_set at same) =
        let before = it.placed other page was e (ap (slice_get parts.files) at ∙ is_was) in
        record {
          found = ap (λ (p : FilePart). p.page) same ∙ same_page ∙ before.found;
          open_ = λ none. before.open_ (still (ap (λ (p : FilePart). p.end) (sym same) ∙ none));
        }
    by_placed other page file e (is_other apart f) = it.placed other page file e f

-- and the page that it is
pub core_both : (names : List (List ℕ)) (parts : CoreParts) → IsCore names parts → (number : ℕ) (was is : FilePart)
    → slice_get parts.files number ≡ Some was → is.page ≡ was.page → (is.end ≡ None → was.end ≡ None)
    → (place : ℕ) → was.page ≡ Some place → (old new : PagePart) → slice_get parts.pages place ≡ Some old → new.file ≡ old.file
    → (is.end ≡ None → new.closed ≡ false)
    → IsCore names (record parts { files = slice_set parts.files number is; pages = slice_set parts.pages place new })
core_both names parts it number was is is_was same_page still place at old new is_old file open_ =
    core_put_open names (record parts { files = slice_set parts.files number is })
    (core_file names parts it number was is is_was same_page still) place old new is_old file
    (λ its e none. open_ (ap (λ (p : FilePart). p.end) (some_same is its
    (sym (set_here parts.files number is (slice_get_within parts.files number was is_was))
    ∙ ap (slice_get (slice_set parts.files number is)) (sym its_file) ∙ e)) ∙ none))
  where
    its_file : old.file ≡ number
    its_file =
        let there = it.found number place was is_was at in
        ap (λ (p : PagePart). p.file) (some_same old there.page (sym is_old ∙ there.is_page)) ∙ there.its_file

module _ (same : Same) (state : State) (counts : Counts) (table : List Row) (names : List (List ℕ)) (parts : CoreParts) (it : IsCore names parts)
    (stands : StandsSo state counts (core_of table names parts)) (laws : CoreLaws table) (change : File → File)
    (change_on : (file : File) → FileGoesOn file (change file)) (number : ℕ) (was is : FilePart) (is_was : slice_get parts.files number ≡ Some was)
    (goes : (file : File) (gave : Option FileResult) → FileStands file gave was → FileStands (change file) gave is) where
  abbrev pub later : Library
  later = change_at change number state.library

  abbrev R : ℕ → Option Result
  R = results_by parts.results

  pub on : LibraryGoesOn state.library later
  on = changed_on same change change_on number state.library

  abbrev pub On : PagePart → PagePart → Type 0
  On old new = PageOn table stands.is_table laws state.library later on R old new

  within : number < length parts.files
  within = slice_get_within parts.files number was is_was

  file_on : (other : ℕ) (file : File) (part : FilePart) → slice_get later other ≡ Some file → AfterSet parts.files number is other part
      → FileStands file (given_at (slice_get parts.results other)) part
  file_on other file part e (is_set at so) =
      let from = changed_from change state.library number file (ap (slice_get later) (sym at) ∙ e) in
      subst (FileStands file (given_at (slice_get parts.results other))) (sym so)
      (subst (λ f. FileStands f (given_at (slice_get parts.results other)) is) (sym from.is)
      (goes from.before (given_at (slice_get parts.results other))
      (stands.files other from.before was (ap (slice_get state.library) at ∙ from.is_before) (ap (slice_get parts.files) at ∙ is_was))))
  file_on other file part e (is_other apart f) =
      stands.files other file part (sym (changed_apart change state.library number other apart) ∙ e) f

  other_on : (part : PagePart) → (part.file ≡ number → ⊥) → On part part
  other_on part apart page count before =
      page_on table laws.pages state.library later on R R (λ file result e. e) page count part
      (changed_apart change state.library number page.file (λ e. apart (before.file ∙ e))) before

  -- a file that is no page
  pub alone : was.page ≡ None
      → StandsSo (record state { library = later }) counts (core_of table names (record parts { files = slice_set parts.files number is }))
  alone none = grown state counts (core_of table names parts) stands laws later on (slice_set parts.files number is) parts.pages refl
      (λ other file part e f. file_on other file part e (after_set parts.files number is other part within f))
      (λ place part e. (part, e, other_on part (λ f. apart place part e f)))
    where
      apart : (place : ℕ) (part : PagePart) → slice_get parts.pages place ≡ Some part → part.file ≡ number → ⊥
      apart place part e f =
          let placed = it.placed place part was e (ap (slice_get parts.files) f ∙ is_was) in
          let wrong : None ≡ Some place = sym none ∙ placed.found in
          cc

  -- a file that is this page
  pub with_page : (place : ℕ) → was.page ≡ Some place → (old new : PagePart) → slice_get parts.pages place ≡ Some old → On old new
      → StandsSo (record state { library = later }) counts
      (core_of table names (record parts { files = slice_set parts.files number is; pages = slice_set parts.pages place new }))
  with_page place at old new is_old goes_on = grown state counts (core_of table names parts) stands laws later on (slice_set parts.files number is)
      (slice_set parts.pages place new) (set_length parts.pages place new)
      (λ other file part e f. file_on other file part e (after_set parts.files number is other part within f))
      (λ other part e. by other part (after_set parts.pages place new other part (slice_get_within parts.pages place old is_old) e))
    where
      apart : (other : ℕ) (part : PagePart) → (other ≡ place → ⊥) → slice_get parts.pages other ≡ Some part → part.file ≡ number → ⊥
      apart other part differs e f =
          let placed = it.placed other part was e (ap (slice_get parts.files) f ∙ is_was) in
          differs (some_same other place (sym placed.found ∙ at))

      by : (other : ℕ) (part : PagePart) → AfterSet parts.pages place new other part
          → (before : PagePart) × (slice_get parts.pages other ≡ Some before) × On before part
      by other part (is_set here so) = (old, ap (slice_get parts.pages) here ∙ is_old, subst (On old) (sym so) goes_on)
      by other part (is_other differs e) = (part, e, other_on part (λ f. apart other part differs e f))

-- ---- at the place of a file

pub file_there : (names : List (List ℕ)) (parts : CoreParts) → IsCore names parts → (number : ℕ) (part : FilePart) → number < length names
    → part ≡ get_or parts.files number part → slice_get parts.files number ≡ Some part
file_there names parts it number part less value =
    slice_get_read parts.files (length parts.files) number part refl (subst (λ n. number < n) (sym it.files) less) value

pub none_of : {A : Type 0} (found : Option A) → is_some found ≡ false → found ≡ None
none_of None e = refl
none_of (Some item) e = absurd (let wrong : true ≡ false = e in cc)

-- a file that is this page
module _ (names : List (List ℕ)) (parts : CoreParts) (it : IsCore names parts) (number : ℕ) (was : FilePart)
    (is_was : slice_get parts.files number ≡ Some was) (place : ℕ) (at : was.page ≡ Some place) where
  pub page_within : place < length parts.pages
  page_within = let there = it.found number place was is_was at in slice_get_within parts.pages place there.page there.is_page

  pub page_at : (old : PagePart) → old ≡ get_or parts.pages place old → slice_get parts.pages place ≡ Some old
  page_at old value = slice_get_read parts.pages (length parts.pages) place old refl page_within value

  pub its_file : (old : PagePart) → slice_get parts.pages place ≡ Some old → old.file ≡ number
  its_file old is_old =
      let there = it.found number place was is_was at in
      ap (λ (p : PagePart). p.file) (some_same old there.page (sym is_old ∙ there.is_page)) ∙ there.its_file

  pub takes_bytes : (old : PagePart) → slice_get parts.pages place ≡ Some old → was.end ≡ None → old.closed ≡ false
  takes_bytes old is_old none =
      (it.placed place old was is_old (ap (slice_get parts.files) (its_file old is_old) ∙ is_was)).open_ none

-- the file of the library at this place, which is open
pub record OpenFile (library : Library) (number : ℕ) : Type 0 where
  pub file : File
  pub is_file : slice_get library number ≡ Some file
  pub open_ : file.mark ≡ Open

pub open_there : (state : State) (counts : Counts) (table : List Row) (names : List (List ℕ)) (parts : CoreParts)
    → StandsSo state counts (core_of table names parts) → (number : ℕ) (was : FilePart) → number < length names
    → slice_get parts.files number ≡ Some was → was.end ≡ None → OpenFile state.library number
open_there state counts table names parts stands number was less is_was none =
    let many : length state.library ≡ length names = sym (length-map state.library (λ (f : File). f.name)) ∙ ap length stands.names in
    let found = item_there state.library number (omega (arith, many, less)) in
    record {
      file = found.0;
      is_file = found.1;
      open_ = sym (stands.files number found.0 was found.1 is_was).mark ∙ ap mark_by none;
    }

-- a file that has ended takes nothing
not_open : (end : Option FileEnd) (mark : Mark) → is_some end ≡ true → mark_by end ≡ mark → mark ≡ Open → ⊥
not_open None mark e same open_ = let wrong : false ≡ true = e in cc
not_open (Some file_end.Whole) mark e same open_ = let wrong : Whole ≡ Open = same ∙ open_ in cc
not_open (Some file_end.Broken) mark e same open_ = let wrong : Broken ≡ Open = same ∙ open_ in cc

no_more : (mark : Mark) (piece : List ℕ) (file : File) → (mark ≡ Open → ⊥) → fed_by mark piece file ≡ file
no_more Open piece file closed = absurd (closed refl)
no_more Whole piece file closed = refl
no_more Broken piece file closed = refl

no_end : (mark : Mark) (how : FileEnd) (file : File) → (mark ≡ Open → ⊥) → ended_by mark how file ≡ file
no_end Open how file closed = absurd (closed refl)
no_end Whole how file closed = refl
no_end Broken how file closed = refl

module _ (state : State) (counts : Counts) (table : List Row) (names : List (List ℕ)) (parts : CoreParts)
    (stands : StandsSo state counts (core_of table names parts)) (number : ℕ) (was : FilePart) (is_was : slice_get parts.files number ≡ Some was)
    (over : is_some was.end ≡ true) where
  closed_there : (file : File) → slice_get state.library number ≡ Some file → file.mark ≡ Open → ⊥
  closed_there file e = not_open was.end file.mark over (stands.files number file was e is_was).mark

  pub fed_nothing : (piece : List ℕ) → change_at (fed piece) number state.library ≡ state.library
  fed_nothing piece = unchanged (fed piece) state.library number (λ file e. no_more file.mark piece file (closed_there file e))

  pub ended_before : (how : FileEnd) → change_at (ended how) number state.library ≡ state.library
  ended_before how = unchanged (ended how) state.library number (λ file e. no_end file.mark how file (closed_there file e))

-- ---- what contracts see

-- what contracts count, the core has
pub part_there : (pages : List PagePart) (place : ℕ) (part : PagePart) → place < length (map seen_of pages) → part ≡ get_or pages place part
    → slice_get pages place ≡ Some part
part_there pages place part less value =
    slice_get_read pages (length pages) place part refl (subst (λ n. place < n) (length-map pages seen_of) less) value

pub shows_where_ok : {E : Type 0} (result : Answered (Option Announced) E) (last : Option Announced) (told : Answer)
    → IfOk result (λ notice. notice ≡ last) → told ≡ Looked last → IfOk result (λ notice. told ≡ Looked notice)
shows_where_ok (Ok notice) last told is e = e ∙ ap Looked (sym is)
shows_where_ok (Err error) last told is e = tt

pub fails_file : (old new : PagePart) → Fails (seen_of old) (seen_of new) → new.file ≡ old.file
fails_file old new (inl same) = ap (λ (p : PageSeen). p.file) same
fails_file old new (inr lost) = ap (λ (p : PageSeen). p.file) lost.1

module _ (pages : List PagePart) (place : ℕ) (old new : PagePart) (is_old : slice_get pages place ≡ Some old) where
  seen_there : slice_get (map seen_of pages) place ≡ Some (seen_of old)
  seen_there = slice_get-map seen_of pages place ∙ ap (option_map seen_of) is_old

  pub same_seen : seen_of new ≡ seen_of old → map seen_of (slice_set pages place new) ≡ map seen_of pages
  same_seen same = seen_put pages place new ∙ ap (slice_set (map seen_of pages) place) same ∙ set_same (map seen_of pages) place (seen_of old) seen_there

  pub only_fails : (file : ℕ) → old.file ≡ file → Fails (seen_of old) (seen_of new)
      → OnlyFails file (map seen_of pages) (map seen_of (slice_set pages place new))
  only_fails file its fails = subst (OnlyFails file (map seen_of pages)) (sym (seen_put pages place new)) (record {
    others = λ number was is e f apart. by_others number was is e apart (after_set (map seen_of pages) place (seen_of new) number is within f);
    its = λ number was is e f. by_its number was is e (after_set (map seen_of pages) place (seen_of new) number is within f);
  })
    where
      within : place < length (map seen_of pages)
      within = slice_get_within (map seen_of pages) place (seen_of old) seen_there

      was_old : (number : ℕ) (was : PageSeen) → slice_get (map seen_of pages) number ≡ Some was → number ≡ place → seen_of old ≡ was
      was_old number was e at = some_same (seen_of old) was (sym seen_there ∙ ap (slice_get (map seen_of pages)) (sym at) ∙ e)

      by_others : (number : ℕ) (was is : PageSeen) → slice_get (map seen_of pages) number ≡ Some was → (was.file ≡ file → ⊥)
          → AfterSet (map seen_of pages) place (seen_of new) number is → is ≡ was
      by_others number was is e apart (is_set at same) = absurd (apart (ap (λ (p : PageSeen). p.file) (sym (was_old number was e at)) ∙ its))
      by_others number was is e apart (is_other differs f) = some_same is was (sym f ∙ e)

      by_its : (number : ℕ) (was is : PageSeen) → slice_get (map seen_of pages) number ≡ Some was
          → AfterSet (map seen_of pages) place (seen_of new) number is → Fails was is
      by_its number was is e (is_set at same) = subst (Fails was) (sym same) (subst (λ w. Fails w (seen_of new)) (was_old number was e at) fails)
      by_its number was is e (is_other differs f) = inl (some_same is was (sym f ∙ e))

pub ok_both : {A E : Type 0} (P Q : Type 0) (result one other : Answered A E) → result ≡ both one other → (P → Q) → OnOk other P → OnOk result Q
ok_both {A = A} {E = E} P Q result one other e then holds = subst (λ r. OnOk r Q) (sym e) (by one other holds)
  where
    second : (other : Answered A E) → OnOk other P → OnOk other Q
    second (Ok done) holds = then holds
    second (Err error) holds = tt

    by : (one other : Answered A E) → OnOk other P → OnOk (both one other) Q
    by (Ok done) other holds = second other holds
    by (Err error) other holds = tt
