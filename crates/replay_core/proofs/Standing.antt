-- How a core stands once bytes of a file came, or its end.
use Rattle.std.proofs.Common.{◌≡◌, ℕ, Option, Some, None, List, length, refl, sym, ap, ◌∙◌}
use Rattle.std.specs.Prelude.{slice_get}
use Rattle.djvu_base.specs.Library.{File, Library}
use Rattle.zp_table.specs.declared.rows.Row.{Row}
use Rattle.zp_table.specs.Rows.{IsTable}
use Rattle.include_graph.specs.declared.verdicts.Verdict.TheVariants as verdict
use Rattle.include_graph.specs.Verdicts.{verdict_of}
use Rattle.jb2_records.specs.declared.results.FileResult.{FileResult}
use Rattle.page_decoder.specs.Results.{Result}
use Rattle.page_decoder.specs.Given.{Included, Page, Home}
use Rattle.page_decoder.specs.Read.{FileDone, decode}
use Rattle.page_decoder.specs.Resolving.{given_at, result_from}
use Rattle.page_decoder.specs.Libraries.{graph_of, given_in, res_of, LibraryGoesOn}
use Rattle.page_decoder.specs.Needs.{IsMade, Built}
use Rattle.replay_core.specs.Counts.{PageCount, Counts, CountsWithin}
use Rattle.replay_core.specs.CoreFiles.{FilePart, FileStands}
use Rattle.replay_core.specs.CorePages.{PagePart, PageStands}
use Rattle.replay_core.specs.Core.{CoreSeen, core_of, results_by, CountedBy, PageAt, StandsSo}
use Rattle.replay_core.specs.Machine.{PageState, State}
use Rattle.replay_core.proofs.Told.{NoticesGrow, GivenGrows}
use Rattle.replay_core.proofs.Lasting.{GivenOn, TellsMore, StaysOver, PageLaws, page_laws}
use Rattle.replay_core.proofs.Making.{Order, DecodeStays, MadeStays, MakingLaws, built_on}

abbrev pub ListsStay : Type 0
ListsStay = (table : List Row) (library later : Library) (file : ℕ) (files : List ℕ) → IsTable table → LibraryGoesOn library later
    → verdict_of (graph_of library) file ≡ verdict.Files files
    → (verdict_of (graph_of later) file ≡ verdict.Files files) × (res_of table library file ≡ res_of table later file)

abbrev pub MadeResults : Type 0
MadeResults = (table : List Row) (library : Library) (results : ℕ → Option Result) (page file : ℕ) → Built table library results
    → IsMade table library results page file
    → ((list : List ℕ) × (verdict_of (graph_of library) file ≡ verdict.Files list))
    × (res_of table library file ≡ decode (given_in Included table library file results))

abbrev pub CountsStay : Type 0
CountsStay = (table : List Row) (library later : Library) (counts : Counts) → IsTable table → LibraryGoesOn library later
    → CountsWithin table library counts → CountsWithin table later counts

pub record CoreLaws (table : List Row) : Type 0 where
  pub pages : PageLaws table
  pub making : MakingLaws
  pub lists : ListsStay
  pub results : MadeResults
  pub counts : CountsStay

pub core_laws : NoticesGrow → GivenGrows → GivenOn → TellsMore → StaysOver → Order → DecodeStays → MadeStays → ListsStay → MadeResults → CountsStay
    → (table : List Row) → IsTable table → CoreLaws table
core_laws notices grows given told over order decoded made lists results counts table is = record {
  pages = page_laws notices grows given told over table is;
  making = record { order = order; given = given; decoded = decoded; made = made };
  lists = lists;
  results = results;
  counts = counts;
}

module _ (table : List Row) (is : IsTable table) (laws : CoreLaws table) (library later : Library) (on : LibraryGoesOn library later) where
  pub res_on : (results : ℕ → Option Result) → Built table library results → (file : ℕ) (result : Result) → results file ≡ Some result
      → res_of table library file ≡ res_of table later file
  res_on results built file result e =
      let there = built file result e in
      let made = laws.results table library results there.page file built there.made in
      (laws.lists table library later file made.0.0 is on made.0.1).1

  pub counted_on : (results : List (Option FileResult)) → Built table library (results_by results) → (file : ℕ) (gave : Option FileResult)
      (count : Option ℕ) → slice_get results file ≡ Some gave → CountedBy table library file gave count → CountedBy table later file gave count
  counted_on results built file None count e counted = counted
  counted_on results built file (Some gave) count e counted = record {
    decisions = counted.decisions;
    is = counted.is;
    whole = λ result so. counted.whole result so
        ∙ ap (λ (done : FileDone). done.decisions)
        (res_on (results_by results) built file result (ap (λ (g : Option (Option FileResult)). result_from (given_at g)) e ∙ so));
  }

  -- a page's part goes on with the library
  abbrev pub PageOn : (ℕ → Option Result) → PagePart → PagePart → Type 0
  PageOn results was is = (page : PageState) (count : PageCount) → PageStands table library results page count was
      → PageStands table later results page count is

-- parts of files and pages that go on with the library, and results as before
module _ (state : State) (counts : Counts) (old : CoreSeen) (stands : StandsSo state counts old) (laws : CoreLaws old.table) (later : Library)
    (on : LibraryGoesOn state.library later) where
  abbrev R : ℕ → Option Result
  R = results_by old.inside.results

  page_then : (pages : List PagePart) (number : ℕ) (was is : PagePart) → slice_get old.inside.pages number ≡ Some was
      → PageOn old.table stands.is_table laws state.library later on R was is
      → PageAt old.table (record state { library = later }) counts R number is
  page_then pages number was is e goes =
      let at = stands.pages number was e in
      record {
        page = at.page;
        is_page = at.is_page;
        count = at.count;
        is_count = at.is_count;
        stands = goes at.page at.count at.stands;
      }

  pub grown : (files : List FilePart) (pages : List PagePart) → length pages ≡ length old.inside.pages
      → ((number : ℕ) (file : File) (part : FilePart) → slice_get later number ≡ Some file → slice_get files number ≡ Some part
      → FileStands file (given_at (slice_get old.inside.results number)) part)
      → ((number : ℕ) (is : PagePart) → slice_get pages number ≡ Some is
      → (was : PagePart) × (slice_get old.inside.pages number ≡ Some was) × PageOn old.table stands.is_table laws state.library later on R was is)
      → StandsSo (record state { library = later }) counts
      (core_of old.table old.names (record { files = files; pages = pages; results = old.inside.results }))
  grown files pages many file_on page_on =
      let within = laws.pages.given Page old.table state.library later 0 R R on (λ file result e. e) in
      record {
        is_table = stands.is_table;
        seen = refl;
        names = ap (λ (home : Home). home.names) (sym within.home) ∙ stands.names;
        places = stands.places;
        files = file_on;
        built = λ file result e. built_on laws.making old.table stands.is_table state.library later on R R (λ file result e. e) file result
            (stands.built file result e);
        within = laws.counts old.table state.library later counts stands.is_table on stands.within;
        counted = λ file gave count e f.
            counted_on old.table stands.is_table laws state.library later on old.inside.results stands.built file gave count e
            (stands.counted file gave count e f);
        state_pages = stands.state_pages ∙ sym many;
        count_pages = stands.count_pages ∙ sym many;
        pages = λ number is e. let was = page_on number is e in page_then pages number was.0 is was.1 was.2;
      }
