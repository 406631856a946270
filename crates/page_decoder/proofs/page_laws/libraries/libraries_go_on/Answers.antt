use Rattle.std.proofs.Common.{◌≡◌, ◌<◌, ◌≤◌, ◌+◌, ℕ, true, List, length, ap, subst, arith}
use Rattle.std.specs.List.{list_any, range_with_len}
use Rattle.std.specs.Prelude.{sum_by}
use Rattle.djvu_base.specs.Library.{Library}
use Rattle.zp_table.specs.declared.rows.Row.{Row}
use Rattle.zp_table.specs.Rows.{IsTable}
use Rattle.include_graph.specs.declared.verdicts.Verdict.TheVariants as verdict
use Rattle.include_graph.specs.Verdicts.{is_among, verdict_of}
use Rattle.page_decoder.specs.Given.{Within}
use Rattle.page_decoder.specs.PageRead.{PageRead}
use Rattle.page_decoder.specs.Read.{FileDone, read}
use Rattle.page_decoder.specs.Libraries.{names_in, graph_of, res_of, run_given, run_end, run, is_reached, file_work, work_of, LibraryGoesOn}
use Rattle.page_decoder.proofs.GoingOn.{same_library, library_both, within_library, length_stays}
use Rattle.page_decoder.proofs.Building.{res_stays}
use Rattle.page_decoder.proofs.Serving.{over_lacks}
use Rattle.page_decoder.proofs.Working.{over_before, reached_listed, list_stays, own_stays, within_run, sum_grows, any_grows, any_found, file_grows}
use Rattle.page_decoder.proofs.page_laws.libraries.libraries_go_on.Goals as goal

module _ (c : goal.After-outlines_stay) (table : List Row) (library later : Library) (is : IsTable table) (on : LibraryGoesOn library later) where
  same : (target file : ℕ) (files : List ℕ) → target < length (names_in library) → verdict_of (graph_of library) target ≡ verdict.Files files
      → is_among file files ≡ true → res_of table library file ≡ res_of table later file
  same = res_stays table is library later on c.included_files.ensures.alone c.included_files.ensures.stays c.outlines_stay.ensures.stays
      c.lists.ensures.order c.lists.ensures.length

  lists : (file : ℕ) (files : List ℕ) → verdict_of (graph_of library) file ≡ verdict.Files files → verdict_of (graph_of later) file ≡ verdict.Files files
  lists = list_stays table library later on c.outlines_stay.ensures.stays c.verdicts_stay.ensures same c.lists.ensures.itself

  owns : (file : ℕ) (files : List ℕ) → verdict_of (graph_of library) file ≡ verdict.Files files → res_of table library file ≡ res_of table later file
  owns = own_stays table library later on c.outlines_stay.ensures.stays c.verdicts_stay.ensures same c.lists.ensures.itself

  runs : (page : ℕ) → Within (run_given table library page) (run_given table later page)
  runs = within_run table library later on c.outlines_stay.ensures.stays c.verdicts_stay.ensures same c.lists.ensures.itself

  reached : (file page : ℕ) → is_reached table library file page ≡ true → is_reached table later file page ≡ true
  reached file page = c.needs.ensures.stay_reached (run_given table library page) (run_given table later page) file is (runs page)

  decisions_same : (file page : ℕ) → is_reached table library file page ≡ true → (res_of table library file).decisions ≡ (res_of table later file).decisions
  decisions_same file page m =
      let given = run_given table library page in
      let list = reached_listed c.lists.ensures.listed table library page file (c.needs.ensures.reached given file m) (c.needs.ensures.because given) in
      ap (λ (d : FileDone). d.decisions) (owns file list.0 list.1)

  files_grow : (pages : List ℕ) (file : ℕ) → file_work table library pages file ≤ file_work table later pages file
  files_grow pages file =
      file_grows (list_any (is_reached table library file) pages) (list_any (is_reached table later file) pages) (res_of table library file).decisions
      (res_of table later file).decisions (any_grows (is_reached table library file) (is_reached table later file) (reached file) pages)
      (λ m. let found = any_found (is_reached table library file) pages m in decisions_same file found.0 found.1)

  pages_grow : (page : ℕ) → (run table library page).left.told.decisions ≤ (run table later page).left.told.decisions
  pages_grow page = (c.growth.ensures.told (run_given table library page) (run_given table later page) is (runs page)).decisions

  work_grows : (pages : List ℕ) → work_of table library pages ≤ work_of table later pages
  work_grows pages =
      let own = sum_grows (λ page. (run table library page).left.told.decisions) (λ page. (run table later page).left.told.decisions) pages_grow pages in
      let files = sum_grows (file_work table library pages) (file_work table later pages) (files_grow pages) (range_with_len 0 (length library)) in
      subst (λ n. work_of table library pages ≤ sum_by (λ page. (run table later page).left.told.decisions) pages
      + sum_by (file_work table later pages) (range_with_len 0 n)) (length_stays library later on) (omega (arith, own, files))

pub returns-clause-same : goal.returns-clause-same
returns-clause-same c library = same_library library

pub returns-clause-both : goal.returns-clause-both
returns-clause-both c library later latest on more = library_both library later latest on more

pub returns-clause-files : goal.returns-clause-files
returns-clause-files c role table library later file less more on results =
    within_library c.outlines_stay.ensures.stays role table library later file less more on results

pub returns-clause-results : goal.returns-clause-results
returns-clause-results c table library later file files is on e =
    (lists c table library later is on file files e, owns c table library later is on file files e)

pub returns-clause-given : goal.returns-clause-given
returns-clause-given c table library later page is on = runs c table library later is on page

pub returns-clause-told : goal.returns-clause-told
returns-clause-told c table library later page is on =
    c.growth.ensures.told (run_given table library page) (run_given table later page) is (runs c table library later is on page)

pub returns-clause-work : goal.returns-clause-work
returns-clause-work c table library later pages is on = work_grows c table library later is on pages

pub returns-clause-over : goal.returns-clause-over
returns-clause-over c table library later page is on over =
    let less = run_given table library page in
    let more = run_given table later page in
    ap (λ (r : PageRead). record { left = r.left; end = run_end r.end })
    (c.growth.ensures.unmet less more is (runs c table library later is on page)
    (over_lacks less more (read less).end (over_before (read less).end over)))
