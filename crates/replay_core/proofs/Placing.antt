-- What a core keeps of one page changes, and with it the state and the counts.
use Rattle.std.proofs.Common.{◌≡◌, ◌<◌, ◌≤◌, ℕ, eqb, Bool, true, false, Some, None, List, length, map, refl, sym, ap, ◌∙◌, subst}
use Rattle.std.specs.Prelude.{slice_get, slice_set, option_map}
use Rattle.std.specs.List.{list_any}
use Rattle.std.proofs.lemmas.Bool.{eqb-true, eqb-false}
use Rattle.std.proofs.lemmas.List.{length-map}
use Rattle.std.proofs.lemmas.Option.{slice_get-map, slice_get_within}
use Rattle.zp_table.specs.declared.rows.Row.{Row}
use Rattle.page_decoder.specs.Libraries.{run, is_reached}
use Rattle.replay_core.specs.Counts.{PageCount, Counts, files_of, CountsWithin}
use Rattle.replay_core.specs.CorePages.{PagePart, seen_of, PageStands}
use Rattle.replay_core.specs.CoreFiles.{FilePart}
use Rattle.replay_core.specs.Core.{CoreParts, core_of, IsPlaced, IsPageOf, IsCore, SameFrame, results_by, PageAt, StandsSo}
use Rattle.replay_core.specs.Machine.{PageState, State}
use Rattle.replay_core.proofs.Listing.{some_same, set_here, set_apart, set_length, AfterSet, is_set, is_other, after_set}
use Rattle.replay_core.proofs.Setting.{set_same, map_set}

module _ (state : State) (counts : Counts) (table : List Row) (names : List (List ℕ)) (parts : CoreParts)
    (stands : StandsSo state counts (core_of table names parts)) (number : ℕ) (old : PagePart) (is_old : slice_get parts.pages number ≡ Some old) where
  -- what stands at its place
  abbrev pub at_place : PageAt table state counts (results_by parts.results) number old
  at_place = stands.pages number old is_old

  module _ (page : PageState) (count : PageCount) (part : PagePart) (file : count.file ≡ at_place.count.file)
      (it : PageStands table state.library (results_by parts.results) page count part) where
    abbrev pub put_state : State
    put_state = record state { pages = slice_set state.pages number page }

    abbrev pub put_counts : Counts
    put_counts = record counts { pages = slice_set counts.pages number count }

    abbrev pub put_parts : CoreParts
    put_parts = record parts { pages = slice_set parts.pages number part }

    same_files : files_of (slice_set counts.pages number count) ≡ files_of counts.pages
    same_files =
        map_set (λ (p : PageCount). p.file) counts.pages number count
        ∙ set_same (files_of counts.pages) number count.file
        (slice_get-map (λ (p : PageCount). p.file) counts.pages number ∙ ap (option_map (λ (p : PageCount). p.file)) at_place.is_count ∙ ap Some (sym file))

    own_within : (other : ℕ) (its : PageCount) → slice_get (slice_set counts.pages number count) other ≡ Some its → (b : Bool) → eqb other number ≡ b
        → its.decisions ≤ (run table state.library its.file).left.told.decisions
    own_within other its e true same =
        let mine : count ≡ its = some_same count its
        (sym (set_here counts.pages number count (slice_get_within counts.pages number at_place.count at_place.is_count))
        ∙ ap (λ n. slice_get (slice_set counts.pages number count) n) (sym (eqb-true other number same)) ∙ e) in
        subst (λ (c : PageCount). c.decisions ≤ (run table state.library c.file).left.told.decisions) mine
        (subst (λ f. count.decisions ≤ (run table state.library f).left.told.decisions) (sym it.counted) it.most)
    own_within other its e false same =
        stands.within.own other its (sym (set_apart counts.pages number other count (eqb-false other number same)) ∙ e)

    put_within : CountsWithin table state.library put_counts
    put_within = record {
      places = stands.within.places;
      own = λ other its e. own_within other its e (eqb other number) refl;
      reached = λ other most e.
          subst (λ files. list_any (is_reached table state.library other) files ≡ true) (sym same_files) (stands.within.reached other most e);
      spent = stands.within.spent;
    }

    put_pages : (other : ℕ) (its : PagePart) → slice_get (slice_set parts.pages number part) other ≡ Some its → (b : Bool) → eqb other number ≡ b
        → PageAt table put_state put_counts (results_by parts.results) other its
    put_pages other its e true same =
        let at = eqb-true other number same in
        let mine : part ≡ its = some_same part its (sym (set_here parts.pages number part (slice_get_within parts.pages number old is_old))
        ∙ ap (λ n. slice_get (slice_set parts.pages number part) n) (sym at) ∙ e) in
        record {
          page = page;
          is_page = ap (λ n. slice_get (slice_set state.pages number page) n) at
              ∙ set_here state.pages number page (slice_get_within state.pages number at_place.page at_place.is_page);
          count = count;
          is_count = ap (λ n. slice_get (slice_set counts.pages number count) n) at
              ∙ set_here counts.pages number count (slice_get_within counts.pages number at_place.count at_place.is_count);
          stands = subst (PageStands table state.library (results_by parts.results) page count) mine it;
        }
    put_pages other its e false same =
        let apart = eqb-false other number same in
        let before = stands.pages other its (sym (set_apart parts.pages number other part apart) ∙ e) in
        record {
          page = before.page;
          is_page = set_apart state.pages number other page apart ∙ before.is_page;
          count = before.count;
          is_count = set_apart counts.pages number other count apart ∙ before.is_count;
          stands = before.stands;
        }

    pub put_stands : StandsSo put_state put_counts (core_of table names put_parts)
    put_stands = record {
      is_table = stands.is_table;
      seen = refl;
      names = stands.names;
      places = stands.places;
      files = stands.files;
      built = stands.built;
      within = put_within;
      counted = stands.counted;
      state_pages = set_length state.pages number page ∙ stands.state_pages ∙ sym (set_length parts.pages number part);
      count_pages = set_length counts.pages number count ∙ stands.count_pages ∙ sym (set_length parts.pages number part);
      pages = λ other its e. put_pages other its e (eqb other number) refl;
    }

-- a core keeps to what it keeps to, where a page keeps its file, and takes bytes while that is open
pub core_put_open : (names : List (List ℕ)) (parts : CoreParts) → IsCore names parts → (number : ℕ) (old part : PagePart)
    → slice_get parts.pages number ≡ Some old → part.file ≡ old.file
    → ((its : FilePart) → slice_get parts.files old.file ≡ Some its → its.end ≡ None → part.closed ≡ false)
    → IsCore names (record parts { pages = slice_set parts.pages number part })
core_put_open names parts it number old part is_old file open_ = record {
  ascending = it.ascending;
  few = it.few;
  files = it.files;
  results = it.results;
  below = λ other page e. by_below other page (after_set parts.pages number part other page within e);
  found = λ other page its e f. by_found other page (it.found other page its e f) (eqb page number) refl;
  placed = λ other page its e f. by_placed other page its (after_set parts.pages number part other page within e) f;
}
  where
    within : number < length parts.pages
    within = slice_get_within parts.pages number old is_old

    by_below : (other : ℕ) (page : PagePart) → AfterSet parts.pages number part other page → page.file < length names
    by_below other page (is_set at same) =
        subst (λ (p : PagePart). p.file < length names) (sym same) (subst (λ f. f < length names) (sym file) (it.below number old is_old))
    by_below other page (is_other apart e) = it.below other page e

    by_found : (other page : ℕ) → IsPageOf parts.pages page other → (b : Bool) → eqb page number ≡ b
        → IsPageOf (slice_set parts.pages number part) page other
    by_found other page there true same =
        let at = eqb-true page number same in
        record {
          page = part;
          is_page = ap (slice_get (slice_set parts.pages number part)) at ∙ set_here parts.pages number part within;
          its_file = file ∙ ap (λ (p : PagePart). p.file)
              (some_same old there.page (sym is_old ∙ ap (slice_get parts.pages) (sym at) ∙ there.is_page)) ∙ there.its_file;
        }
    by_found other page there false same = record {
      page = there.page;
      is_page = set_apart parts.pages number page part (eqb-false page number same) ∙ there.is_page;
      its_file = there.its_file;
    }

    by_placed : (other : ℕ) (page : PagePart) (its : FilePart) → AfterSet parts.pages number part other page → slice_get parts.files page.file ≡ Some its
        → IsPlaced other page its
    by_placed other page its (is_set at same) f =
        let there = ap (slice_get parts.files) (sym (ap (λ (p : PagePart). p.file) same ∙ file)) ∙ f in
        let before = it.placed number old its is_old there in
        record {
          found = before.found ∙ ap Some (sym at);
          open_ = λ e. ap (λ (p : PagePart). p.closed) same ∙ open_ its there e;
        }
    by_placed other page its (is_other apart e) f = it.placed other page its e f

pub core_put : (names : List (List ℕ)) (parts : CoreParts) → IsCore names parts → (number : ℕ) (old part : PagePart)
    → slice_get parts.pages number ≡ Some old → part.file ≡ old.file → part.closed ≡ old.closed
    → IsCore names (record parts { pages = slice_set parts.pages number part })
core_put names parts it number old part is_old file closed =
    core_put_open names parts it number old part is_old file (λ its e none. closed ∙ (it.placed number old its is_old e).open_ none)

-- what contracts see of the pages
pub seen_put : (pages : List PagePart) (number : ℕ) (part : PagePart) → map seen_of (slice_set pages number part)
    ≡ slice_set (map seen_of pages) number (seen_of part)
seen_put pages number part = map_set seen_of pages number part

pub same_put : (table : List Row) (names : List (List ℕ)) (parts parts' : CoreParts) (number : ℕ) (part : PagePart)
    → parts'.pages ≡ slice_set parts.pages number part → SameFrame (core_of table names parts) (core_of table names parts')
same_put table names parts parts' number part e = record {
  table = refl;
  names = refl;
  count = ap (λ l. length (map seen_of l)) e ∙ length-map (slice_set parts.pages number part) seen_of ∙ set_length parts.pages number part
      ∙ sym (length-map parts.pages seen_of);
}

-- where the state and the counts stay
pub placed_same : (state : State) (counts : Counts) (table : List Row) (names : List (List ℕ)) (parts : CoreParts)
    (stands : StandsSo state counts (core_of table names parts)) (number : ℕ) (old : PagePart) (is_old : slice_get parts.pages number ≡ Some old)
    (part : PagePart) → let at = stands.pages number old is_old in
    PageStands table state.library (results_by parts.results) at.page at.count part
    → StandsSo state counts (core_of table names (record parts { pages = slice_set parts.pages number part }))
placed_same state counts table names parts stands number old is_old part it =
    let at = stands.pages number old is_old in
    let put = put_stands state counts table names parts stands number old is_old at.page at.count part refl it in
    let new = core_of table names (record parts { pages = slice_set parts.pages number part }) in
    subst (λ pages. StandsSo (record state { pages = pages }) counts new) (set_same state.pages number at.page at.is_page)
    (subst (λ pages. StandsSo (record state { pages = slice_set state.pages number at.page }) (record counts { pages = pages }) new)
    (set_same counts.pages number at.count at.is_count) put)
