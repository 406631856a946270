-- A core of which no byte came.
use Rattle.std.proofs.Common.{◌≡◌, ◌≢◌, ◌<◌, ◌^◌, ◌+◌, ℕ, zero, suc, Bool, true, false, eqb, Option, Some, None, List, [], ◌∷◌, ◌++◌, length, map, refl, sym, ap, ◌∙◌, subst, arith}
use Rattle.std.specs.Prelude.{slice_get, slice_set, replicate}
use Rattle.std.proofs.lemmas.Bool.{eqb-true, eqb-false}
use Rattle.std.proofs.lemmas.List.{length-map, length-append}
use Rattle.std.proofs.lemmas.Option.{slice_get_within}
use Rattle.djvu_base.specs.Library.{Open, File, Library}
use Rattle.djvu_base.specs.Name.{IsAscending}
use Rattle.zp_table.specs.declared.rows.Row.{Row}
use Rattle.zp_table.specs.Rows.{IsTable}
use Rattle.jb2_records.specs.declared.results.FileResult.{FileResult}
use Rattle.page_decoder.specs.Results.{Result}
use Rattle.page_decoder.specs.Resolving.{given_at, result_from}
use Rattle.page_decoder.specs.Decoder.{KnowsNothing}
use Rattle.page_decoder.specs.Given.{Page, Known}
use Rattle.page_decoder.specs.PageFed.{Decoding, Fed}
use Rattle.page_decoder.specs.Libraries.{names_in, bytes_in, mark_in}
use Rattle.replay_core.specs.declared.pages.CoreEnd.TheVariants as core_end
use Rattle.replay_core.specs.Counts.{PageCount, no_counts}
use Rattle.replay_core.specs.CoreFiles.{FilePart, FileStands, IsEmpty}
use Rattle.replay_core.specs.CorePages.{PagePart, PageSeen, IsBegun, untouched, uncounted, seen_of}
use Rattle.replay_core.specs.Core.{CoreParts, core_of, results_by, CountedBy, PageAt, StandsSo, AreEmpty, ArePages, IsCore, AreApart}
use Rattle.replay_core.specs.Machine.{empty_file, unread_page, start}
use Rattle.replay_core.proofs.Listing.{some_same, set_length, AfterSet, is_set, is_other, after_set}

-- ---- lists

pub item_there : {A : Type 0} (items : List A) (number : ℕ) → number < length items → (item : A) × (slice_get items number ≡ Some item)
item_there [] number less = absurd (omega (arith, less))
item_there (first ∷ items) zero less = (first, refl)
item_there (first ∷ items) (suc number) less = item_there items number (omega (arith, less))

mapped : {A B : Type 0} (change : A → B) (items : List A) (number : ℕ) (item : A) → slice_get items number ≡ Some item
    → slice_get (map change items) number ≡ Some (change item)
mapped change [] number item e = absurd (let wrong : None ≡ Some item = e in cc)
mapped change (first ∷ items) zero item e = ap (λ i. Some (change i)) (some_same first item e)
mapped change (first ∷ items) (suc number) item e = mapped change items number item e

-- an item of a mapped list comes from one of the list
mapped_from : {A B : Type 0} (change : A → B) (items : List A) (number : ℕ) (item : B) → slice_get (map change items) number ≡ Some item
    → (from : A) × (item ≡ change from)
mapped_from change [] number item e = absurd (let wrong : None ≡ Some item = e in cc)
mapped_from change (first ∷ items) zero item e = (first, sym (some_same (change first) item e))
mapped_from change (first ∷ items) (suc number) item e = mapped_from change items number item e

replicated : {A : Type 0} (count number : ℕ) (item found : A) → slice_get (replicate count item) number ≡ Some found → found ≡ item
replicated zero number item found e = absurd (let wrong : None ≡ Some found = e in cc)
replicated (suc count) zero item found e = sym (some_same item found e)
replicated (suc count) (suc number) item found e = replicated count number item found e

replicated_length : {A : Type 0} (count : ℕ) (item : A) → length (replicate count item) ≡ count
replicated_length zero item = refl
replicated_length (suc count) item = ap suc (replicated_length count item)

empty_names : (names : List (List ℕ)) → names_in (map empty_file names) ≡ names
empty_names [] = refl
empty_names (name ∷ names) = ap (λ l. name ∷ l) (empty_names names)

no_result : (count file : ℕ) (result : Result) → results_by (replicate count None) file ≡ Some result → ⊥
no_result count file result e = by (slice_get (replicate count None) file) refl
  where
    by : (found : Option (Option FileResult)) → slice_get (replicate count None) file ≡ found → ⊥
    by None is = let wrong : None ≡ Some result = sym (ap (λ (f : Option (Option FileResult)). result_from (given_at f)) is) ∙ e in cc
    by (Some gave) is =
        let none = replicated count file None gave is in
        let wrong : None ≡ Some result =
        sym (ap (λ (g : Option FileResult). result_from g) none) ∙ sym (ap (λ (f : Option (Option FileResult)). result_from (given_at f)) is) ∙ e in
        cc

none_counted : {A : Type 0} (count number : ℕ) (found : A) → slice_get (replicate count None) number ≡ Some (Some found) → ⊥
none_counted count number found e = let wrong : Some found ≡ None = replicated count number None (Some found) e in cc

-- an item behind a list, or one of before
data AfterPush {A : Type 0} (items : List A) (item : A) (number : ℕ) (found : A) : Type 0 where
  is_pushed : number ≡ length items → found ≡ item → AfterPush items item number found
  is_older : slice_get items number ≡ Some found → AfterPush items item number found

after_push : {A : Type 0} (items : List A) (item : A) (number : ℕ) (found : A) → slice_get (items ++ item ∷ []) number ≡ Some found
    → AfterPush items item number found
after_push [] item zero found e = is_pushed refl (sym (some_same item found e))
after_push [] item (suc number) found e = absurd (let wrong : None ≡ Some found = e in cc)
after_push (first ∷ items) item zero found e = is_older e
after_push {A = A} (first ∷ items) item (suc number) found e = by (after_push items item number found e)
  where
    by : AfterPush items item number found → AfterPush (first ∷ items) item (suc number) found
    by (is_pushed at same) = is_pushed (ap suc at) same
    by (is_older there) = is_older there

-- ---- files

pub empty_push : (count : ℕ) (files : List FilePart) (file : FilePart) (pushed : List FilePart) → AreEmpty count files → IsEmpty file
    → file.page ≡ None → pushed ≡ files ++ file ∷ [] → AreEmpty (count + 1) pushed
empty_push count files file pushed are empty none e = subst (AreEmpty (count + 1)) (sym e) (record {
  many = let many = are.many in let more = length-append files (file ∷ []) in omega (arith, many, more);
  empty = λ number found f. by number found (after_push files file number found f);
})
  where
    by : (number : ℕ) (found : FilePart) → AfterPush files file number found → IsEmpty found × (found.page ≡ None)
    by number found (is_pushed at same) = (subst IsEmpty (sym same) empty, ap (λ (f : FilePart). f.page) same ∙ none)
    by number found (is_older f) = are.empty number found f

empty_with : (file : FilePart) (place : ℕ) → IsEmpty file → IsEmpty (record file { page = Some place })
empty_with file place empty = record {
  stands = λ name result. let it = empty.stands name result in record { mark = it.mark; by = it.by };
  end = empty.end;
}

-- ---- pages are begun one after another

-- the first of these pages, of which no byte came, and all files
pub record AreBegun (table : List Row) (names : List (List ℕ)) (count : ℕ) (numbers : List ℕ) (pages : List PagePart) (files : List FilePart) :
    Type 0 where
  pub begun : (place file : ℕ) (page : PagePart) → slice_get numbers place ≡ Some file → slice_get pages place ≡ Some page → IsBegun table names file page
  pub file_count : length files ≡ count
  pub empty : (number : ℕ) (file : FilePart) → slice_get files number ≡ Some file → IsEmpty file
  pub placed : (place number : ℕ) (file : FilePart) → place < length pages → slice_get numbers place ≡ Some number
      → slice_get files number ≡ Some file → file.page ≡ Some place
  pub found : (number place : ℕ) (file : FilePart) → slice_get files number ≡ Some file → file.page ≡ Some place → place < length pages
  pub its : (number place : ℕ) (file : FilePart) → slice_get files number ≡ Some file → file.page ≡ Some place → slice_get numbers place ≡ Some number

pub none_begun : (table : List Row) (names : List (List ℕ)) (numbers : List ℕ) (files : List FilePart) → AreEmpty (length files) files
    → AreBegun table names (length files) numbers [] files
none_begun table names numbers files are = record {
  begun = λ place file page e f. absurd (let wrong : None ≡ Some page = f in cc);
  file_count = refl;
  empty = λ number file e. (are.empty number file e).0;
  placed = λ place number file less e f. absurd (omega (arith, less));
  found = λ number place file e f. absurd (let wrong : None ≡ Some place = sym (are.empty number file e).1 ∙ f in cc);
  its = λ number place file e f. absurd (let wrong : None ≡ Some place = sym (are.empty number file e).1 ∙ f in cc);
}

pub all_begun : (table : List Row) (names : List (List ℕ)) (count : ℕ) (numbers : List ℕ) (pages : List PagePart) (files : List FilePart)
    → length pages ≡ length numbers → AreBegun table names count numbers pages files → ArePages table names count numbers pages files
all_begun table names count numbers pages files many are = record {
  many = many;
  begun = are.begun;
  file_count = are.file_count;
  empty = are.empty;
  placed = are.placed;
  found = are.found;
  its = are.its;
}

pub next_begun : (table : List Row) (names : List (List ℕ)) (count : ℕ) (numbers : List ℕ) (pages : List PagePart) (files : List FilePart)
    → AreApart numbers → AreBegun table names count numbers pages files → (number : ℕ) → slice_get numbers (length pages) ≡ Some number
    → (old new : FilePart) → slice_get files number ≡ Some old → new ≡ record old { page = Some (length pages) } → (page : PagePart)
    → IsBegun table names number page → (pushed : List PagePart) → pushed ≡ pages ++ page ∷ []
    → AreBegun table names count numbers pushed (slice_set files number new)
next_begun table names count numbers pages files apart are number is_number old new is_old new_is page is_begun pushed pushed_is =
    subst (λ p. AreBegun table names count numbers p (slice_set files number new)) (sym pushed_is) (record {
      begun = λ place file it e f. by_begun place file it e (after_push pages page place it f);
      file_count = set_length files number new ∙ are.file_count;
      empty = λ other file e. by_empty other file (after_set files number new other file within e);
      placed = λ place other file less e f. by_placed place other file less e (after_set files number new other file within f);
      found = λ other place file e f. by_found other place file (after_set files number new other file within e) f;
      its = λ other place file e f. by_its other place file (after_set files number new other file within e) f;
    })
  where
    within : number < length files
    within = slice_get_within files number old is_old

    many : length (pages ++ page ∷ []) ≡ length pages + 1
    many = length-append pages (page ∷ [])

    new_page : new.page ≡ Some (length pages)
    new_page = ap (λ (f : FilePart). f.page) new_is

    by_begun : (place file : ℕ) (it : PagePart) → slice_get numbers place ≡ Some file → AfterPush pages page place it → IsBegun table names file it
    by_begun place file it e (is_pushed at same) =
        subst (IsBegun table names file) (sym same)
        (subst (λ n. IsBegun table names n page) (some_same number file (sym is_number ∙ ap (slice_get numbers) (sym at) ∙ e)) is_begun)
    by_begun place file it e (is_older f) = are.begun place file it e f

    by_empty : (other : ℕ) (file : FilePart) → AfterSet files number new other file → IsEmpty file
    by_empty other file (is_set at same) = subst IsEmpty (sym (same ∙ new_is)) (empty_with old (length pages) (are.empty number old is_old))
    by_empty other file (is_other differs e) = are.empty other file e

    placed_before : (place other : ℕ) (file : FilePart) → place < length (pages ++ page ∷ []) → slice_get numbers place ≡ Some other
        → (other ≡ number → ⊥) → slice_get files other ≡ Some file → (b : Bool) → eqb place (length pages) ≡ b → file.page ≡ Some place
    placed_before place other file less e differs f true is =
        absurd (differs (some_same other number (sym e ∙ ap (slice_get numbers) (eqb-true place (length pages) is) ∙ is_number)))
    placed_before place other file less e differs f false is =
        let not_last : place ≢ length pages = eqb-false place (length pages) is in
        are.placed place other file (omega (arith, less, many, not_last)) e f

    by_placed : (place other : ℕ) (file : FilePart) → place < length (pages ++ page ∷ []) → slice_get numbers place ≡ Some other
        → AfterSet files number new other file → file.page ≡ Some place
    by_placed place other file less e (is_set at same) =
        ap (λ (f : FilePart). f.page) same ∙ new_page ∙ ap Some (apart (length pages) place number is_number (e ∙ ap Some at))
    by_placed place other file less e (is_other differs f) = placed_before place other file less e differs f (eqb place (length pages)) refl

    last : (place : ℕ) (file : FilePart) → file ≡ new → file.page ≡ Some place → length pages ≡ place
    last place file same f = some_same (length pages) place (sym new_page ∙ ap (λ (f : FilePart). f.page) (sym same) ∙ f)

    by_found : (other place : ℕ) (file : FilePart) → AfterSet files number new other file → file.page ≡ Some place → place < length (pages ++ page ∷ [])
    by_found other place file (is_set at same) f = let it = last place file same f in omega (arith, it, many)
    by_found other place file (is_other differs e) f = let less = are.found other place file e f in omega (arith, less, many)

    by_its : (other place : ℕ) (file : FilePart) → AfterSet files number new other file → file.page ≡ Some place → slice_get numbers place ≡ Some other
    by_its other place file (is_set at same) f = ap (slice_get numbers) (sym (last place file same f)) ∙ is_number ∙ ap Some (sym at)
    by_its other place file (is_other differs e) f = are.its other place file e f

-- ---- a page

abbrev nothing : Known
nothing = record { outlines = λ file. None; results = λ file. None }

pub begun : (table : List Row) (names : List (List ℕ)) (file : ℕ) (decoder : Decoding)
    → ((known : Known) → KnowsNothing known
    → Fed (record { home = record { role = Page; table = table; names = names; file = file }; known = known; bytes = []; mark = Open }) decoder)
    → decoder.drawn ≡ 0 → decoder.decisions ≡ 0 → decoder.failed ≡ false
    → IsBegun table names file (record {
      file = file;
      decoder = Some decoder;
      last = None;
      decisions = 0;
      end = core_end.OutOfMemory;
      layers = None;
      taken = false;
      closed = false;
    })
begun table names file decoder fed drawn decisions works = record {
  stands = λ name library results names_are there. record {
    file = refl;
    counted = refl;
    sound = omega arith;
    last = refl;
    decisions = refl;
    most = omega arith;
    by = record {
      given = record { home = record { role = Page; table = table; names = names; file = file }; known = nothing; bytes = []; mark = Open };
      fed = fed nothing (record { outlines = λ file. refl; results = λ file. refl });
      home = ap (λ n. record { role = Page; table = table; names = n; file = file }) (sym names_are);
      known = record {
        outlines = λ file outline e. absurd (let wrong : None ≡ Some outline = e in cc);
        results = λ file result e. absurd (let wrong : None ≡ Some result = e in cc);
      };
      bytes = ap bytes_in (sym there);
      mark = ap mark_in (sym there);
      drawn = drawn;
      decisions = decisions;
      works = works;
    };
  };
  seen = refl;
  open_ = refl;
}

-- ---- the core

module _ (table : List Row) (is : IsTable table) (names : List (List ℕ)) (numbers : List ℕ) (pages : List PagePart) (files : List FilePart)
    (are : ArePages table names (length names) numbers pages files)
    (below : (place file : ℕ) → slice_get numbers place ≡ Some file → file < length names) where
  abbrev results : List (Option FileResult)
  results = replicate (length names) None

  abbrev parts : CoreParts
  parts = record { files = files; pages = pages; results = results }

  abbrev library : Library
  library = map empty_file names

  file_begins : (number : ℕ) (file : File) (part : FilePart) → slice_get library number ≡ Some file → slice_get files number ≡ Some part
      → FileStands file (given_at (slice_get results number)) part
  file_begins number file part e f =
      let from = mapped_from empty_file names number file e in
      subst (λ it. FileStands it (given_at (slice_get results number)) part) (sym from.1)
      ((are.empty number part f).stands from.0 (given_at (slice_get results number)))

  page_begins : (place : ℕ) (part : PagePart) → slice_get pages place ≡ Some part
      → PageAt table (start names numbers) (no_counts (length names) numbers) (results_by results) place part
  page_begins place part e =
      let many = are.many in
      let within = slice_get_within pages place part e in
      let number = item_there numbers place (omega (arith, many, within)) in
      let name = item_there names number.0 (below place number.0 number.1) in
      record {
        page = unread_page number.0;
        is_page = mapped unread_page numbers place number.0 number.1;
        count = uncounted number.0;
        is_count = mapped uncounted numbers place number.0 number.1;
        stands = (are.begun place number.0 part number.1 e).stands name.0 library (results_by results) (empty_names names)
            (mapped empty_file names number.0 name.0 name.1);
      }

  pub begins : StandsSo (start names numbers) (no_counts (length names) numbers) (core_of table names parts)
  begins = record {
    is_table = is;
    seen = refl;
    names = empty_names names;
    places = replicated_length (length names) None;
    files = file_begins;
    built = λ file result e. absurd (no_result (length names) file result e);
    within = record {
      places = replicated_length (length names) None ∙ sym (length-map names empty_file);
      own = λ number page e.
          let from = mapped_from uncounted numbers number page e in
          let none = ap (λ (p : PageCount). p.decisions) from.1 in
          omega (arith, none);
      reached = λ file decisions e. absurd (none_counted (length names) file decisions e);
      spent = λ file decisions e. absurd (none_counted (length names) file decisions e);
    };
    counted = λ file gave count e f.
        let none = replicated (length names) file None gave e in
        subst (λ g. CountedBy table library file g count) (sym none) (replicated (length names) file None count f);
    state_pages = length-map numbers unread_page ∙ sym are.many;
    count_pages = length-map numbers uncounted ∙ sym are.many;
    pages = page_begins;
  }

  pub is_core : IsAscending names → length names < 2 ^ 32 → AreApart numbers → IsCore names parts
  is_core ascending few apart = record {
    ascending = ascending;
    few = few;
    files = are.file_count;
    results = replicated_length (length names) None;
    below = λ place page e.
        let many = are.many in
        let within = slice_get_within pages place page e in
        let number = item_there numbers place (omega (arith, many, within)) in
        let same = ap (λ (p : PageSeen). p.file) (are.begun place number.0 page number.1 e).seen in
        subst (λ f. f < length names) (sym same) (below place number.0 number.1);
    found = λ number place file e f.
        let page = item_there pages place (are.found number place file e f) in
        record {
          page = page.0;
          is_page = page.1;
          its_file = ap (λ (p : PageSeen). p.file) (are.begun place number page.0 (are.its number place file e f) page.1).seen;
        };
    placed = λ place page file e f.
        let many = are.many in
        let within = slice_get_within pages place page e in
        let number = item_there numbers place (omega (arith, many, within)) in
        let begun = are.begun place number.0 page number.1 e in
        let same = ap (λ (p : PageSeen). p.file) begun.seen in
        record {
          found = are.placed place number.0 file within number.1 (ap (slice_get files) (sym same) ∙ f);
          open_ = λ open_. begun.open_;
        };
  }

pub seen_at_start : (table : List Row) (names : List (List ℕ)) (count : ℕ) (numbers : List ℕ) (pages : List PagePart) (files : List FilePart)
    → ArePages table names count numbers pages files → map seen_of pages ≡ map untouched numbers
seen_at_start table names count numbers pages files are = by pages numbers are.many are.begun
  where
    by : (pages : List PagePart) (numbers : List ℕ) → length pages ≡ length numbers
        → ((place file : ℕ) (page : PagePart) → slice_get numbers place ≡ Some file → slice_get pages place ≡ Some page
        → IsBegun table names file page)
        → map seen_of pages ≡ map untouched numbers
    by [] [] many begun = refl
    by [] (number ∷ numbers) many begun = absurd (omega (arith, many))
    by (page ∷ pages) [] many begun = absurd (omega (arith, many))
    by (page ∷ pages) (number ∷ numbers) many begun =
        ap (λ p. p ∷ map seen_of pages) (begun 0 number page refl refl).seen
        ∙ ap (λ l. untouched number ∷ l) (by pages numbers (omega (arith, many)) (λ place file p e f. begun (suc place) file p e f))
