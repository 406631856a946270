-- What the standing of a core says of its pages and of what was counted.
use Rattle.std.proofs.Common.{◌≡◌, ◌≤◌, ◌||◌, ℕ, zero, suc, Bool, true, false, Option, Some, None, ◌⊎◌, inl, inr, List, [], ◌∷◌, length, map, refl, sym, ap, ◌∙◌, subst, arith}
use Rattle.std.specs.Prelude.{slice_get}
use Rattle.std.specs.List.{list_any}
use Rattle.std.proofs.lemmas.Option.{slice_get_within}
use Rattle.djvu_base.specs.declared.faults.Fault.{Fault}
use Rattle.djvu_base.specs.Library.{Library}
use Rattle.zp_table.specs.declared.rows.Row.{Row}
use Rattle.jb2_records.specs.declared.results.FileResult.{FileResult}
use Rattle.page_decoder.specs.PageFed.{Decoding}
use Rattle.page_decoder.specs.PageRead.{Ending, Finished, Refused}
use Rattle.page_decoder.specs.Results.{Result}
use Rattle.page_decoder.specs.Resolving.{given_at, result_in, result_from}
use Rattle.page_decoder.specs.Libraries.{run, is_reached}
use Rattle.replay_core.specs.declared.pages.CoreEnd.{CoreEnd}
use Rattle.replay_core.specs.declared.pages.CoreEnd.TheVariants as core_end
use Rattle.replay_core.specs.Counts.{PageCount, Counts, files_of, CountsAll}
use Rattle.replay_core.specs.CorePages.{PagePart, PageSeen, end_by, seen_of, IsOverSo, EndedBy, PageBy, PageStands}
use Rattle.replay_core.specs.Core.{CoreSeen, results_by, StandsSo, AllOver}
use Rattle.replay_core.specs.Machine.{PageState, State, page_notices, IsSound}
use Rattle.replay_core.proofs.Listing.{some_same}
use Rattle.replay_core.proofs.Beginning.{item_there}

-- two lists whose items agree by a name of theirs, place by place
pub same_mapped : {A B C : Type 0} (of_a : A → C) (of_b : B → C) (firsts : List A) (others : List B) → length firsts ≡ length others
    → ((number : ℕ) (b : B) → slice_get others number ≡ Some b → (a : A) × (slice_get firsts number ≡ Some a) × (of_a a ≡ of_b b))
    → map of_a firsts ≡ map of_b others
same_mapped of_a of_b [] [] many same = refl
same_mapped of_a of_b [] (b ∷ others) many same = absurd (omega (arith, many))
same_mapped of_a of_b (a ∷ firsts) [] many same = absurd (omega (arith, many))
same_mapped of_a of_b (a ∷ firsts) (b ∷ others) many same =
    let first = same 0 b refl in
    ap (λ c. c ∷ map of_a firsts) (ap of_a (some_same a first.0 first.1) ∙ first.2)
    ∙ ap (λ l. of_b b ∷ l) (same_mapped of_a of_b firsts others (omega (arith, many)) (λ number it e. same (suc number) it e))

-- a page is over, by how it ended
abbrev pub IsDone : Option CoreEnd → Type 0
IsDone end = (end ≡ Some core_end.Finished) ⊎ ((fault : Fault) × (end ≡ Some (core_end.Refused fault)))

pub over_of : (table : List Row) (library : Library) (results : ℕ → Option Result) (page : PageState) (count : PageCount) (part : PagePart)
    → PageStands table library results page count part → IsDone (end_by part.decoder part.end)
    → (end : Ending) × IsOverSo table library results page count part end
over_of table library results page count part stands done = by part.decoder stands.by done
  where
    ended : (end : CoreEnd) → EndedBy end table library results page count part → IsDone (Some end)
        → (over : Ending) × IsOverSo table library results page count part over
    ended core_end.Finished is done = (Finished, is)
    ended (core_end.Refused fault) is done = (Refused fault, is)
    ended core_end.OutOfMemory is (inl wrong) = absurd (let same : core_end.OutOfMemory ≡ core_end.Finished =
        some_same core_end.OutOfMemory core_end.Finished wrong in cc)
    ended core_end.OutOfMemory is (inr wrong) =
        absurd (let same : core_end.OutOfMemory ≡ core_end.Refused wrong.0 = some_same core_end.OutOfMemory (core_end.Refused wrong.0) wrong.1 in cc)

    by : (decoder : Option Decoding) → PageBy decoder table library results page count part → IsDone (end_by decoder part.end)
        → (over : Ending) × IsOverSo table library results page count part over
    by (Some decoder) lives (inl wrong) = absurd (let same : None ≡ Some core_end.Finished = wrong in cc)
    by (Some decoder) lives (inr wrong) = absurd (let same : None ≡ Some (core_end.Refused wrong.0) = wrong.1 in cc)
    by None is done = ended part.end is done

seen_files : (parts : List PagePart) → map (λ (page : PageSeen). page.file) (map seen_of parts) ≡ map (λ (part : PagePart). part.file) parts
seen_files [] = refl
seen_files (part ∷ parts) = ap (λ l. part.file ∷ l) (seen_files parts)

seen_at : (parts : List PagePart) (number : ℕ) (part : PagePart) → slice_get parts number ≡ Some part
    → slice_get (map seen_of parts) number ≡ Some (seen_of part)
seen_at [] number part e = absurd (let wrong : None ≡ Some part = e in cc)
seen_at (first ∷ parts) zero part e = ap (λ p. Some (seen_of p)) (some_same first part e)
seen_at (first ∷ parts) (suc number) part e = seen_at parts number part e

-- where some page passes, one is there that does
any_there : (test : ℕ → Bool) (pages : List PageCount) → list_any test (files_of pages) ≡ true
    → (number : ℕ) × (page : PageCount) × (slice_get pages number ≡ Some page) × (test page.file ≡ true)
any_there test [] any = absurd (let wrong : false ≡ true = any in cc)
any_there test (page ∷ pages) any = by (test page.file) refl (λ later. any_there test pages later) any
  where
    by : (b : Bool) → test page.file ≡ b
        → (list_any test (files_of pages) ≡ true → (number : ℕ) × (it : PageCount) × (slice_get pages number ≡ Some it) × (test it.file ≡ true))
        → (b || list_any test (files_of pages)) ≡ true → (number : ℕ) × (it : PageCount) × (slice_get (page ∷ pages) number ≡ Some it) × (test it.file ≡ true)
    by true is rest m = (0, page, refl, is)
    by false is rest m = let later = rest m in (suc later.0, later.1, later.2, later.3)

-- a file of which a result is known gave that
pub record Gave (results : List (Option FileResult)) (file : ℕ) (result : Result) : Type 0 where
  pub gave : FileResult
  pub is : slice_get results file ≡ Some (Some gave)
  pub so : result_in gave ≡ Some result

pub gave_of : (results : List (Option FileResult)) (file : ℕ) (result : Result) → results_by results file ≡ Some result → Gave results file result
gave_of results file result e = by (slice_get results file) refl e
  where
    by : (found : Option (Option FileResult)) → slice_get results file ≡ found → result_from (given_at found) ≡ Some result → Gave results file result
    by None is so = absurd (let wrong : None ≡ Some result = so in cc)
    by (Some None) is so = absurd (let wrong : None ≡ Some result = so in cc)
    by (Some (Some gave)) is so = record { gave = gave; is = is; so = so }

-- what the core keeps of a page that is counted, and the page
pub record PartOf (core : CoreSeen) (library : Library) (number : ℕ) (count : PageCount) : Type 0 where
  pub part : PagePart
  pub is_part : slice_get core.inside.pages number ≡ Some part
  pub page : PageState
  pub stands : PageStands core.table library (results_by core.inside.results) page count part

module _ (state : State) (counts : Counts) (core : CoreSeen) (stands : StandsSo state counts core) where
  abbrev R : ℕ → Option Result
  R = results_by core.inside.results

  part_of : (number : ℕ) (count : PageCount) → slice_get counts.pages number ≡ Some count → PartOf core state.library number count
  part_of number count e =
      let many = stands.count_pages in
      let within = slice_get_within counts.pages number count e in
      let part = item_there core.inside.pages number (omega (arith, many, within)) in
      let at = stands.pages number part.0 part.1 in
      record {
        part = part.0;
        is_part = part.1;
        page = at.page;
        stands = subst (λ c. PageStands core.table state.library R at.page c part.0) (some_same at.count count (sym at.is_count ∙ e)) at.stands;
      }

  pub counted_files : files_of counts.pages ≡ map (λ (page : PageSeen). page.file) core.pages
  counted_files =
      same_mapped (λ (count : PageCount). count.file) (λ (part : PagePart). part.file) counts.pages core.inside.pages stands.count_pages
      (λ number part e. let at = stands.pages number part e in (at.count, at.is_count, at.stands.counted ∙ sym at.stands.file))
      ∙ sym (seen_files core.inside.pages) ∙ ap (map (λ (page : PageSeen). page.file)) (sym stands.seen)

  pub state_files : map (λ (page : PageState). page.file) state.pages ≡ map (λ (page : PageSeen). page.file) core.pages
  state_files =
      same_mapped (λ (page : PageState). page.file) (λ (part : PagePart). part.file) state.pages core.inside.pages stands.state_pages
      (λ number part e. let at = stands.pages number part e in (at.page, at.is_page, sym at.stands.file))
      ∙ sym (seen_files core.inside.pages) ∙ ap (map (λ (page : PageSeen). page.file)) (sym stands.seen)

  pub is_sound : IsSound core.table state
  is_sound number page e =
      let many = stands.state_pages in
      let within = slice_get_within state.pages number page e in
      let part = item_there core.inside.pages number (omega (arith, many, within)) in
      let at = stands.pages number part.0 part.1 in
      subst (λ p. p.drawn ≤ length (page_notices core.table state.library p.file)) (some_same at.page page (sym at.is_page ∙ e)) at.stands.sound

  module _ (over : AllOver core.pages) where
    done_of : (number : ℕ) (part : PagePart) → slice_get core.inside.pages number ≡ Some part → IsDone (end_by part.decoder part.end)
    done_of number part e = over number (seen_of part) (ap (λ l. slice_get l number) stands.seen ∙ seen_at core.inside.pages number part e)

    over_at : (number : ℕ) (count : PageCount) (e : slice_get counts.pages number ≡ Some count) (it : PartOf core state.library number count)
        → (end : Ending) × IsOverSo core.table state.library R it.page count it.part end
    over_at number count e it = over_of core.table state.library R it.page count it.part it.stands (done_of number it.part it.is_part)

    pub counts_all : CountsAll core.table state.library counts
    counts_all = record {
      own = λ number count e.
          let it = part_of number count e in
          let is = (over_at number count e it).1 in
          is.decisions ∙ ap (λ f. (run core.table state.library f).left.told.decisions) (sym it.stands.counted);
      reached = λ file found e any.
          let some = any_there (is_reached core.table state.library file) counts.pages any in
          let it = part_of some.0 some.1 some.2 in
          let is = (over_at some.0 some.1 some.2 it).1 in
          let known = is.reached file (subst (λ f. is_reached core.table state.library file f ≡ true) it.stands.counted some.3) in
          let gave = gave_of core.inside.results file known.0 known.1 in
          let counted = stands.counted file (Some gave.gave) found gave.is e in
          counted.is ∙ ap Some (counted.whole known.0 gave.so);
    }
