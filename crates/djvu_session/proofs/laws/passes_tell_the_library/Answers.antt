use Rattle.std.proofs.Common.{◌≡◌, ◌≤◌, ℕ, true, Option, Some, None, length, refl, sym, ap, ◌∙◌, subst, arith}
use Rattle.std.specs.List.{list_any}
use Rattle.std.proofs.lemmas.List.Folds.{Any-from_list_any, list_any_at}
use Rattle.std.proofs.lemmas.Option.{slice_get-get_or, get_or_from_slice_get}
use Rattle.page_decoder.specs.Given.{Page}
use Rattle.page_decoder.specs.Read.{read}
use Rattle.page_decoder.specs.Libraries.{given_in, run_given, run, res_of, is_reached}
use Rattle.djvu_session.specs.Passes.{Setup, PageState, file_at}
use Rattle.djvu_session.specs.Spent.{decisions_of, results_from}
use Rattle.djvu_session.specs.Everyone.{state_in}
use Rattle.djvu_session.proofs.Finding.{first_page_at, first_file_at, files_are, length_counts, some_spent}
use Rattle.djvu_session.proofs.Summing.{sums_add_up}
use Rattle.djvu_session.proofs.Meeting.{found, all_built, page_told, not_at_end}
use Rattle.djvu_session.proofs.Ending.{is_done, decisions_at_end, reached_gives}
use Rattle.djvu_session.proofs.laws.passes_tell_the_library.Goals as goal

pub returns-clause-told : goal.returns-clause-told
returns-clause-told c setup library known passes page state all e =
    c.told_stays.ensures.run setup.table library (results_from known) (file_at setup page) state all.is_setup.table
    (all_built c.spent_stays.ensures setup library known passes all)
    (page_told c.told_stays.ensures.more (λ table one later file less more. c.libraries_go_on.ensures.files Page table one later file less more)
    setup library known passes page state all e)

few_or_none : (most : ℕ) (it : Option PageState) → ((state : PageState) → it ≡ Some state → state.decisions ≤ most) → decisions_of it ≤ most
few_or_none most None few = omega arith
few_or_none most (Some state) few = few state refl

pub returns-clause-within : goal.returns-clause-within
returns-clause-within c setup library known passes all = record {
  places = length_counts passes 0 setup.names ∙ sym all.long;
  own = λ number page e.
      let at = first_page_at passes setup.pages number page e in
      let few = few_or_none (run setup.table library (file_at setup number)).left.told.decisions (state_in passes number)
      (λ state is. (returns-clause-told c setup library known passes number state all is).decisions) in
      subst (λ n. n ≤ (run setup.table library page.file).left.told.decisions) (sym at.1)
      (subst (λ file. decisions_of (state_in passes number) ≤ (run setup.table library file).left.told.decisions)
      (get_or_from_slice_get setup.pages number page.file 0 at.0) few);
  reached = λ file decisions e.
      let it = found c.spent_stays.ensures setup library known passes file decisions all (sym (first_file_at passes setup.names file (Some decisions) e)) in
      subst (λ pages. list_any (is_reached setup.table library file) pages ≡ true) (sym (files_are passes 0 setup.pages))
      (list_any_at (is_reached setup.table library file) setup.pages it.page 0 it.inside
      (c.published_files_are_the_librarys.ensures.reached setup.table library (results_from known) (file_at setup it.page) file decisions it.result
      all.is_setup.table (all_built c.spent_stays.ensures setup library known passes all) it.is_spent));
  spent = λ file decisions e.
      let it = found c.spent_stays.ensures setup library known passes file decisions all (sym (first_file_at passes setup.names file (Some decisions) e)) in
      c.published_files_are_the_librarys.ensures.at_most setup.table library (results_from known) (file_at setup it.page) file decisions it.result
      (all_built c.spent_stays.ensures setup library known passes all) it.is_spent;
}

pub returns-clause-sums : goal.returns-clause-sums
returns-clause-sums c setup library known passes all =
    sums_add_up setup passes
    (λ k d inside.
    let many = (all.keeps k d inside).many in
    let same = all.same k d inside in
    record {
      pages = many.1 ∙ ap (λ (s : Setup). length s.pages) same;
      files = many.2 ∙ ap (λ (s : Setup). length s.names) same;
    }) all.alone all.once

pub returns-clause-all : goal.returns-clause-all
returns-clause-all c setup library known passes all ended below =
    let table = setup.table in
    let results = results_from known in
    let built = all_built c.spent_stays.ensures setup library known passes all in
    record {
      own = λ number page e.
          let at = first_page_at passes setup.pages number page e in
          let end = ended number page.file at.0 in
          let reading = run table library (file_at setup number) in
          let told = returns-clause-told c setup library known passes number end.0 all end.1 in
          let exact = not_at_end reading.left.told.decisions end.0.decisions (c.ticks_add_up.ensures.from_zero reading.left.told.decisions)
          (decisions_at_end reading end.0 end.0.end end.2 told.end) (below.own number end.0 end.1) in
          subst (λ file. page.decisions ≡ (run table library file).left.told.decisions) (get_or_from_slice_get setup.pages number page.file 0 at.0)
          (at.1 ∙ ap decisions_of end.1 ∙ exact);
      reached = λ file it e among.
          let some = Any-from_list_any (is_reached table library file) setup.pages
          (subst (λ pages. list_any (is_reached table library file) pages ≡ true) (files_are passes 0 setup.pages) among) in
          let slice = slice_get-get_or setup.pages some.0 some.1 some.2 ∙ ap Some some.3 in
          let end = ended some.0 some.1 slice in
          let less = given_in Page table library (file_at setup some.0) results in
          let more = run_given table library (file_at setup some.0) in
          let told = page_told c.told_stays.ensures.more (λ table one later file less more. c.libraries_go_on.ensures.files Page table one later file less more)
          setup library known passes some.0 end.0 all end.1 in
          let within = c.results_are_the_librarys.ensures.pages table library results (file_at setup some.0) built in
          let done = is_done (read less) (read more) end.0 end.0.end end.2 told.end (c.growth.ensures.finished less more all.is_setup.table within)
          (λ fault. c.growth.ensures.refused less more fault all.is_setup.table within) in
          let reached = subst (λ page. is_reached table library file page ≡ true) (sym (get_or_from_slice_get setup.pages some.0 some.1 0 slice)) some.4 in
          let gives = reached_gives known (read less) (read more) end.0 file done (c.needs.ensures.reached less file) reached in
          let spent = some_spent passes file (all.claimed file gives.found gives.is_known) in
          let by_pass = found c.spent_stays.ensures setup library known passes file spent.0 all spent.1 in
          let both : Some by_pass.result ≡ Some gives.found = sym by_pass.is_known ∙ gives.is_known in
          let same : by_pass.result ≡ gives.found = cc in
          let exact = not_at_end (res_of table library file).decisions spent.0 (c.ticks_add_up.ensures.from_zero (res_of table library file).decisions)
          (c.published_files_are_the_librarys.ensures.all table library results (file_at setup by_pass.page) file spent.0 by_pass.result built
          by_pass.is_spent (λ none. gives.memory (sym same ∙ none))) (below.files file spent.0 spent.1) in
          first_file_at passes setup.names file it e ∙ spent.1 ∙ ap Some exact;
    }
