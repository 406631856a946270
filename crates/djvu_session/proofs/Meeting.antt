-- Passes whose seats are joined: what each of them published and told, over the library that goes on from what each has seen.
use Rattle.std.proofs.Common.{◌≡◌, ◌<◌, ◌^◌, ◌-◌, ℕ, min, Option, Some, None, List, length, refl, sym, ap, ◌∙◌, subst, arith}
use Rattle.std.specs.Prelude.{All}
use Rattle.std.proofs.lemmas.Grind.{common_steps}
use Rattle.djvu_base.specs.Library.{Library}
use Rattle.djvu_base.specs.Meter.{ticked, TicksExactly}
use Rattle.jb2_records.specs.declared.results.FileResult.{FileResult}
use Rattle.zp_table.specs.declared.rows.Row.{Row}
use Rattle.zp_table.specs.Rows.{IsTable}
use Rattle.page_decoder.specs.Results.{Result}
use Rattle.page_decoder.specs.Resolving.{result_from}
use Rattle.page_decoder.specs.Given.{Page, Given, Within}
use Rattle.page_decoder.specs.Read.{read}
use Rattle.page_decoder.specs.Libraries.{given_in, LibraryGoesOn}
use Rattle.page_decoder.specs.Needs.{Built}
use Rattle.djvu_session.specs.Passes.{Setup, PageState, DecoderView, file_at, spent_of}
use Rattle.djvu_session.specs.Seen.{seen, result_at, results_known, given_of}
use Rattle.djvu_session.specs.Pages.{IsTold}
use Rattle.djvu_session.specs.Spent.{IsSpent, IsPublished, results_from}
use Rattle.djvu_session.specs.Keeps.{DecoderKeeps}
use Rattle.djvu_session.specs.Everyone.{state_in, spent_in}
use Rattle.djvu_session.specs.Together.{KnowsResults, AreTogether}
use Rattle.djvu_session.proofs.Finding.{find_spent, find_state, some_spent, state_inside}
use Rattle.djvu_session.proofs.Spending.{is_built}

-- what is known of one of the passes
pub record Joins (setup : Setup) (library : Library) (known : ℕ → Option FileResult) (pass : DecoderView) : Type 0 where
  pub same : pass.setup ≡ setup
  pub keeps : DecoderKeeps pass
  pub seen : LibraryGoesOn (seen pass) library
  pub knows : KnowsResults known pass

pub joins : (setup : Setup) (library : Library) (known : ℕ → Option FileResult) (passes : List DecoderView) → AreTogether setup library known passes
    → All (Joins setup library known) passes
joins setup library known passes all =
    λ k d inside. record { same = all.same k d inside; keeps = all.keeps k d inside; seen = all.seen k d inside; knows = all.knows k d inside }

pub results_on : (known : ℕ → Option FileResult) (pass : DecoderView) → KnowsResults known pass
    → (file : ℕ) (it : Result) → results_known pass.shelf.hold file ≡ Some it → results_from known file ≡ Some it
results_on known pass knows file it e = by (result_at pass.shelf.hold file) refl e
  where
    by : (own : Option FileResult) → result_at pass.shelf.hold file ≡ own → result_from own ≡ Some it → results_from known file ≡ Some it
    by None is e = absurd (let wrong : None ≡ Some it = e in cc)
    by (Some found) is e = ap result_from (knows file found is) ∙ e

-- how decodings and what was told stay, as laws have it
abbrev pub SpentStays : Type 0
SpentStays = (table : List Row) (library later : Library) (less more : ℕ → Option Result) (page file spent : ℕ) (result : FileResult) → IsTable table
    → LibraryGoesOn library later → ((other : ℕ) (it : Result) → less other ≡ Some it → more other ≡ Some it)
    → IsSpent table library less page file spent result → IsSpent table later more page file spent result

-- a file that one of the passes claimed, in the end
pub record Found (setup : Setup) (library : Library) (known : ℕ → Option FileResult) (file spent : ℕ) : Type 0 where
  pub page : ℕ
  pub inside : page < length setup.pages
  pub result : FileResult
  pub is_known : known file ≡ Some result
  pub is_spent : IsSpent setup.table library (results_from known) (file_at setup page) file spent result

found_by : SpentStays → (setup : Setup) (library : Library) (known : ℕ → Option FileResult) (pass : DecoderView) (file spent : ℕ) → IsTable setup.table
    → Joins setup library known pass → spent_of pass file ≡ Some spent → Found setup library known file spent
found_by stays setup library known pass file spent is it e =
    let kept = it.keeps.files file spent e in
    let by_pass = stays pass.setup.table (seen pass) library (results_known pass.shelf.hold) (results_from known) (file_at pass.setup kept.page) file spent
    kept.published.result (subst (λ (s : Setup). IsTable s.table) (sym it.same) is) it.seen (results_on known pass it.knows) kept.published.is_spent in
    let own = state_inside pass.pages kept.page kept.state kept.own in
    let many = it.keeps.many.1 in
    let same = ap (λ (s : Setup). length s.pages) it.same in
    record {
      page = kept.page;
      inside = omega (arith, own, many, same);
      result = kept.published.result;
      is_known = it.knows file kept.published.result kept.published.known;
      is_spent = subst (λ (s : Setup). IsSpent s.table library (results_from known) (file_at s kept.page) file spent kept.published.result) it.same by_pass;
    }

pub found : SpentStays → (setup : Setup) (library : Library) (known : ℕ → Option FileResult) (passes : List DecoderView) (file spent : ℕ)
    → AreTogether setup library known passes → spent_in passes file ≡ Some spent → Found setup library known file spent
found stays setup library known passes file spent all e =
    let it = find_spent (Joins setup library known) passes file spent (joins setup library known passes all) e in
    found_by stays setup library known it.pass file spent all.is_setup.table it.holds it.is

-- each result that is known was published by one of them
found_result : SpentStays → (setup : Setup) (library : Library) (known : ℕ → Option FileResult) (passes : List DecoderView) (file : ℕ) (result : FileResult)
    → AreTogether setup library known passes → known file ≡ Some result → IsPublished setup.table library known file result
found_result stays setup library known passes file result all e =
    let some = some_spent passes file (all.claimed file result e) in
    let it = found stays setup library known passes file some.0 all some.1 in
    let both : Some it.result ≡ Some result = sym it.is_known ∙ e in
    let same : it.result ≡ result = cc in
    record {
      page = file_at setup it.page;
      spent = some.0;
      is_spent = subst (λ r. IsSpent setup.table library (results_from known) (file_at setup it.page) file some.0 r) same it.is_spent;
    }

pub all_built : SpentStays → (setup : Setup) (library : Library) (known : ℕ → Option FileResult) (passes : List DecoderView)
    → AreTogether setup library known passes → Built setup.table library (results_from known)
all_built stays setup library known passes all =
    is_built setup.table library known (λ file result e. found_result stays setup library known passes file result all e)

-- ---- pages

abbrev pub ToldStays : Type 0
ToldStays = (less more : Given) (page : PageState) → IsTable less.home.table → Within less more → IsTold (read less) page → IsTold (read more) page

abbrev pub FilesGoOn : Type 0
FilesGoOn = (table : List Row) (library later : Library) (file : ℕ) (less more : ℕ → Option Result) → LibraryGoesOn library later
    → ((other : ℕ) (it : Result) → less other ≡ Some it → more other ≡ Some it)
    → Within (given_in Page table library file less) (given_in Page table later file more)

-- what is told of a page is true over the library and all results that are known
pub page_told : ToldStays → FilesGoOn → (setup : Setup) (library : Library) (known : ℕ → Option FileResult) (passes : List DecoderView) (page : ℕ)
    (state : PageState) → AreTogether setup library known passes → state_in passes page ≡ Some state
    → IsTold (read (given_in Page setup.table library (file_at setup page) (results_from known))) state
page_told stays files setup library known passes page state all e =
    let it = find_state (Joins setup library known) passes page state (joins setup library known passes all) e in
    let pass = it.pass in
    let own = it.holds in
    let by_pass = stays (given_of pass page) (given_in Page pass.setup.table library (file_at pass.setup page) (results_from known)) state
    (subst (λ (s : Setup). IsTable s.table) (sym own.same) all.is_setup.table)
    (files pass.setup.table (seen pass) library (file_at pass.setup page) (results_known pass.shelf.hold) (results_from known) own.seen
    (results_on known pass own.knows)) (own.keeps.pages page state it.is).told in
    subst (λ (s : Setup). IsTold (read (given_in Page s.table library (file_at s page) (results_from known))) state) own.same by_pass

-- ---- counts that don't stand at their end

pub not_at_end : (all count : ℕ) → ticked all 0 ≡ min all (2 ^ 64 - 1) → TicksExactly all 0 count → count < 2 ^ 64 - 1 → count ≡ all
not_at_end all count is e few = grind (arith, common_steps, is, e, few)
