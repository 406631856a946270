-- A file is decoded for a page that needs it: what the core keeps then.
use Rattle.std.proofs.Common.{◌≡◌, ◌≢◌, ◌<◌, ◌≤◌, ℕ, zero, suc, ◌+◌, eqb, Bool, true, false, ◌||◌, Option, Some, None, List, [], ◌∷◌, length, refl, sym, ap, ◌∙◌, subst}
use Rattle.std.specs.Prelude.{slice_get, slice_set, sum_by}
use Rattle.std.specs.List.{list_any}
use Rattle.std.proofs.lemmas.Bool.{eqb-true, eqb-false}
use Rattle.std.proofs.lemmas.Option.{slice_get_within}
use Rattle.djvu_base.specs.Library.{File, Library}
use Rattle.djvu_base.specs.Meter.{TicksExactly, ticked}
use Rattle.zp_table.specs.declared.rows.Row.{Row}
use Rattle.jb2_records.specs.declared.results.FileResult.{FileResult}
use Rattle.page_decoder.specs.Results.{Result}
use Rattle.page_decoder.specs.Given.{Included}
use Rattle.page_decoder.specs.Read.{decode}
use Rattle.page_decoder.specs.Resolving.{given_at, result_in, result_from}
use Rattle.page_decoder.specs.Libraries.{given_in, res_of, is_reached, LibraryGoesOn}
use Rattle.page_decoder.specs.Needs.{IsMade, IsBuilt, Built}
use Rattle.replay_core.specs.declared.core_calls.CoreStep.{CoreStep}
use Rattle.replay_core.specs.Counts.{PageCount, Counts, files_of, spent_on, CountsWithin}
use Rattle.replay_core.specs.CoreFiles.{FilePart, FileStands}
use Rattle.replay_core.specs.CorePages.{PagePart}
use Rattle.replay_core.specs.Core.{CoreParts, core_of, FileAfter, as_it_was, results_by, IsCounted, CountedBy, PageAt, Stands, StandsSo}
use Rattle.replay_core.specs.CoreSteps.{Decodes}
use Rattle.replay_core.specs.Machine.{PageState, State}
use Rattle.replay_core.proofs.Listing.{some_same, set_here, set_apart, set_length}
use Rattle.replay_core.proofs.Beginning.{item_there}
use Rattle.replay_core.proofs.Lasting.{PageLaws, ResultsOn, page_on}
use Rattle.replay_core.proofs.Making.{MakingLaws, built_on}
use Rattle.replay_core.proofs.Setting.{sum_set}

or_right : (a b : Bool) → b ≡ true → (a || b) ≡ true
or_right true b e = refl
or_right false b e = e

any_page : (test : ℕ → Bool) (pages : List PageCount) (number : ℕ) (it : PageCount) → slice_get pages number ≡ Some it → test it.file ≡ true
    → list_any test (files_of pages) ≡ true
any_page test [] number it e t = absurd (let wrong : None ≡ Some it = e in cc)
any_page test (first ∷ pages) zero it e t =
    let same = some_same first it e in
    ap (λ b. b || list_any test (files_of pages)) (ap (λ (p : PageCount). test p.file) same ∙ t)
any_page test (first ∷ pages) (suc number) it e t =
    or_right (test first.file) (list_any test (files_of pages)) (any_page test pages number it e t)

-- what the decoding of a file gave, and with how many decisions
pub record Gave (table : List Row) (library : Library) (results : ℕ → Option Result) (file : ℕ) (gave : FileResult) (decisions : ℕ) : Type 0 where
  pub result : (result : Result) → result_in gave ≡ Some result → (result ≡ (decode (given_in Included table library file results)).result)
      × (decisions ≡ (res_of table library file).decisions)
  pub most : decisions ≤ (res_of table library file).decisions

module _ (table : List Row) (laws : MakingLaws) (pages : PageLaws table) (goes_on : (library : Library) → LibraryGoesOn library library) (state : State)
    (counts : Counts) (names : List (List ℕ)) (parts : CoreParts)
    (stands : StandsSo state counts (core_of table names parts)) (lengths : length parts.results ≡ length names) (number : ℕ) (page : PageState)
    (is_page : slice_get state.pages number ≡ Some page)
    (file : ℕ) (gave : FileResult) (decisions : ℕ) (first : slice_get parts.results file ≡ Some None)
    (made : IsMade table state.library (results_by parts.results) page.file file)
    (reached : is_reached table state.library file page.file ≡ true)
    (result : Gave table state.library (results_by parts.results) file gave decisions) (kept : FilePart) where
  abbrev pub made_parts : CoreParts
  made_parts = record parts { files = slice_set parts.files file kept; results = slice_set parts.results file (Some gave) }

  abbrev pub made_counts : Counts
  made_counts = record counts { files = slice_set counts.files file (Some decisions) }

  abbrev Less : ℕ → Option Result
  Less = results_by parts.results

  abbrev More : ℕ → Option Result
  More = results_by (slice_set parts.results file (Some gave))

  below : file < length parts.results
  below = slice_get_within parts.results file None first

  -- what is kept of results is what was, but for this file
  there : given_at (slice_get (slice_set parts.results file (Some gave)) file) ≡ Some gave
  there = ap given_at (set_here parts.results file (Some gave) below)

  lacks : Less file ≡ None
  lacks = ap (λ r. result_from (given_at r)) first

  elsewhere : (other : ℕ) → other ≢ file → slice_get (slice_set parts.results file (Some gave)) other ≡ slice_get parts.results other
  elsewhere other apart = set_apart parts.results file other (Some gave) apart

  pub keeps : ResultsOn Less More
  keeps other found e = by (eqb other file) refl
    where
      by : (b : Bool) → eqb other file ≡ b → More other ≡ Some found
      by true is =
          let wrong : None ≡ Some found = sym lacks ∙ ap Less (sym (eqb-true other file is)) ∙ e in absurd (cc)
      by false is = ap (λ r. result_from (given_at r)) (elsewhere other (eqb-false other file is)) ∙ e

  built : Built table state.library More
  built other found e = by (eqb other file) refl
    where
      by : (b : Bool) → eqb other file ≡ b → IsBuilt table state.library More other found
      by true is =
          let here = eqb-true other file is in
          let given : result_in gave ≡ Some found = ap result_from (sym there) ∙ ap More (sym here) ∙ e in
          subst (λ n. IsBuilt table state.library More n found) (sym here)
          (built_on laws table stands.is_table state.library state.library (goes_on state.library) Less More keeps file found (record {
            page = page.file;
            made = made;
            so = (result.result found given).0;
          }))
      by false is =
          built_on laws table stands.is_table state.library state.library (goes_on state.library) Less More keeps other found
          (stands.built other found (ap (λ r. result_from (given_at r)) (sym (elsewhere other (eqb-false other file is))) ∙ e))

  -- the page that needs the file is one of those that are counted
  counted_page : list_any (is_reached table state.library file) (files_of counts.pages) ≡ true
  counted_page =
      let within = slice_get_within state.pages number page is_page in
      let part = item_there parts.pages number (subst (λ n. number < n) stands.state_pages within) in
      let at = stands.pages number part.0 part.1 in
      let same : at.page ≡ page = some_same at.page page (sym at.is_page ∙ is_page) in
      any_page (is_reached table state.library file) counts.pages number at.count at.is_count
      (subst (λ f. is_reached table state.library file f ≡ true) (sym (at.stands.counted ∙ ap (λ (p : PageState). p.file) same)) reached)

  places_are : file < length counts.files
  places_are = subst (λ n. file < n) (lengths ∙ sym stands.places) below

  counts_within : CountsWithin table state.library made_counts
  counts_within = record {
    places = set_length counts.files file (Some decisions) ∙ stands.within.places;
    own = stands.within.own;
    reached = λ other most e. by_reached other most e (eqb other file) refl;
    spent = λ other most e. by_spent other most e (eqb other file) refl;
  }
    where
      here : (other most : ℕ) → other ≡ file → slice_get (slice_set counts.files file (Some decisions)) other ≡ Some (Some most) → decisions ≡ most
      here other most is e =
          let there : Some (Some decisions) ≡ Some (Some most) =
          sym (set_here counts.files file (Some decisions) places_are)
          ∙ ap (λ n. slice_get (slice_set counts.files file (Some decisions)) n) (sym is) ∙ e in
          some_same decisions most (some_same (Some decisions) (Some most) there)

      by_reached : (other most : ℕ) → slice_get (slice_set counts.files file (Some decisions)) other ≡ Some (Some most) → (b : Bool) → eqb other file ≡ b
          → list_any (is_reached table state.library other) (files_of counts.pages) ≡ true
      by_reached other most e true is =
          subst (λ n. list_any (is_reached table state.library n) (files_of counts.pages) ≡ true) (sym (eqb-true other file is)) counted_page
      by_reached other most e false is =
          stands.within.reached other most (sym (set_apart counts.files file other (Some decisions) (eqb-false other file is)) ∙ e)

      by_spent : (other most : ℕ) → slice_get (slice_set counts.files file (Some decisions)) other ≡ Some (Some most) → (b : Bool) → eqb other file ≡ b
          → most ≤ (res_of table state.library other).decisions
      by_spent other most e true is =
          let at = eqb-true other file is in
          subst (λ n. most ≤ (res_of table state.library n).decisions) (sym at)
          (subst (λ d. d ≤ (res_of table state.library file).decisions) (here other most at e) result.most)
      by_spent other most e false is =
          stands.within.spent other most (sym (set_apart counts.files file other (Some decisions) (eqb-false other file is)) ∙ e)

  module _ (part : FilePart) (is_part : slice_get parts.files file ≡ Some part)
      (forgets : (it : File) → FileStands it None part → FileStands it (Some gave) kept) where
    files_stand : (other : ℕ) (it : File) (its : FilePart) → slice_get state.library other ≡ Some it
        → slice_get (slice_set parts.files file kept) other ≡ Some its
        → FileStands it (given_at (slice_get (slice_set parts.results file (Some gave)) other)) its
    files_stand other it its is e = by (eqb other file) refl
      where
        by : (b : Bool) → eqb other file ≡ b → FileStands it (given_at (slice_get (slice_set parts.results file (Some gave)) other)) its
        by true same =
            let at = eqb-true other file same in
            let mine : kept ≡ its = some_same kept its (sym (set_here parts.files file kept (slice_get_within parts.files file part is_part))
            ∙ ap (λ n. slice_get (slice_set parts.files file kept) n) (sym at) ∙ e) in
            let was : FileStands it None part = subst (λ r. FileStands it r part) (ap given_at first)
            (stands.files file it part (subst (λ n. slice_get state.library n ≡ Some it) at is) is_part) in
            subst (λ n. FileStands it (given_at (slice_get (slice_set parts.results file (Some gave)) n)) its) (sym at)
            (subst (λ r. FileStands it r its) (sym there) (subst (λ k. FileStands it (Some gave) k) mine (forgets it was)))
        by false same =
            let apart = eqb-false other file same in
            subst (λ r. FileStands it (given_at r) its) (sym (elsewhere other apart))
            (stands.files other it its is (sym (set_apart parts.files file other kept apart) ∙ e))

    counted_so : (other : ℕ) (gives : Option FileResult) (count : Option ℕ) → slice_get (slice_set parts.results file (Some gave)) other ≡ Some gives
        → slice_get (slice_set counts.files file (Some decisions)) other ≡ Some count → CountedBy table state.library other gives count
    counted_so other gives count e f = by (eqb other file) refl
      where
        by : (b : Bool) → eqb other file ≡ b → CountedBy table state.library other gives count
        by true same =
            let at = eqb-true other file same in
            let mine : Some gave ≡ gives = some_same (Some gave) gives (sym (set_here parts.results file (Some gave) below)
            ∙ ap (λ n. slice_get (slice_set parts.results file (Some gave)) n) (sym at) ∙ e) in
            let its : Some decisions ≡ count = some_same (Some decisions) count (sym (set_here counts.files file (Some decisions) places_are)
            ∙ ap (λ n. slice_get (slice_set counts.files file (Some decisions)) n) (sym at) ∙ f) in
            subst (λ n. CountedBy table state.library n gives count) (sym at)
            (subst (λ g. CountedBy table state.library file g count) mine
            (subst (λ c. IsCounted table state.library file gave c) its (record {
              decisions = decisions;
              is = refl;
              whole = λ found given. (result.result found given).1;
            })))
        by false same =
            let apart = eqb-false other file same in
            stands.counted other gives count (sym (elsewhere other apart) ∙ e) (sym (set_apart counts.files file other (Some decisions) apart) ∙ f)

    pages_stand : (place : ℕ) (its : PagePart) → slice_get parts.pages place ≡ Some its → PageAt table state made_counts More place its
    pages_stand place its e =
        let at = stands.pages place its e in
        record {
          page = at.page;
          is_page = at.is_page;
          count = at.count;
          is_count = at.is_count;
          stands = page_on table pages state.library state.library (goes_on state.library) Less More keeps at.page at.count its refl at.stands;
        }

    made_stands : StandsSo state made_counts (core_of table names made_parts)
    made_stands = record {
      is_table = stands.is_table;
      seen = stands.seen;
      names = stands.names;
      places = set_length counts.files file (Some decisions) ∙ stands.places;
      files = files_stand;
      built = built;
      within = counts_within;
      counted = counted_so;
      state_pages = stands.state_pages;
      count_pages = stands.count_pages;
      pages = pages_stand;
    }

    -- so the file is decoded, once
    pub makes : (answer : CoreStep) (ticks : ℕ) → FileAfter answer table state.library page.file file None (Some decisions)
        → TicksExactly ticks (ticked (sum_by spent_on counts.files) 0) (ticked (sum_by spent_on counts.files + decisions) 0)
        → Decodes state counts page answer (core_of table names parts) (core_of table names made_parts) ticks
    unfolding Stands
    makes answer ticks after count = record {
      after = made_counts;
      stands = made_stands;
      own = refl;
      places = set_length counts.files file (Some decisions);
      files = λ other was is e f. files_after other was is e f (eqb other file) refl;
      count = ap (λ n. ticked n 0) (sum_set counts.files file decisions uncounted_yet) ∙ count;
      results = keeps;
    }
      where
        uncounted_yet : slice_get counts.files file ≡ Some None
        uncounted_yet =
            let at = item_there counts.files file places_are in
            at.1 ∙ ap Some (stands.counted file None at.0 first at.1)

        files_after : (other : ℕ) (was is : Option ℕ) → slice_get counts.files other ≡ Some was
            → slice_get (slice_set counts.files file (Some decisions)) other ≡ Some is
            → (b : Bool) → eqb other file ≡ b → FileAfter answer table state.library page.file other was is
        files_after other was is e f true same =
            let at = eqb-true other file same in
            let before : None ≡ was = some_same None was (sym uncounted_yet ∙ ap (λ n. slice_get counts.files n) (sym at) ∙ e) in
            let its : Some decisions ≡ is = some_same (Some decisions) is (sym (set_here counts.files file (Some decisions) places_are)
            ∙ ap (λ n. slice_get (slice_set counts.files file (Some decisions)) n) (sym at) ∙ f) in
            subst (λ n. FileAfter answer table state.library page.file n was is) (sym at)
            (subst (λ w. FileAfter answer table state.library page.file file w is) before
            (subst (λ i. FileAfter answer table state.library page.file file None i) its after))
        files_after other was is e f false same =
            let it : was ≡ is = some_same was is (sym e ∙ sym (set_apart counts.files file other (Some decisions) (eqb-false other file same)) ∙ f) in
            subst (λ i. FileAfter answer table state.library page.file other was i) it (as_it_was was)
