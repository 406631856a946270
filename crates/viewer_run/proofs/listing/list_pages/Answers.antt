use Rattle.std.proofs.Common.{ℕ, suc, Ok, Err, List, take, drop, sym, ap, ◌∙◌}
use Rattle.std.proofs.lemmas.List.{take_all}
use Rattle.std.proofs.lemmas.Result.{err_from_is_err_and}
use Rattle.viewer_run.proofs.Joining.{one_more, stopped_at, lists_named, has_file_at, here_at, counts_more}
use Rattle.viewer_run.proofs.listing.list_pages.Goals as goal

pub list_page-requires : goal.list_page-requires
list_page-requires g c told files =
    let names : List (List ℕ) = c.args.pages.now in
    has_file_at told names c.loop-at.at c.index-pages-at.result (drop (suc c.loop-at.at) names) (c.requires.listed told (sym c.loop-at.invariant.files ∙ files))
    (here_at names c.loop-at.at c.index-pages-at.result c.index-pages-at.is c.loop-at-test.true)

pub returns-in_err-shown-clause-told : goal.returns-in_err-shown-clause-told
returns-in_err-shown-clause-told g c told out files =
    let inv = c.loop-at.invariant in
    let p = err_from_is_err_and c.from_residual.result c.from_residual.ensures.1 in
    stopped_at told c.args.pages.now c.loop-at.at c.index-pages-at.result c.loop-at.all c.in_err-shown.field-0.0 c.list_page.result
    c.from_residual.result
    _ _ _ _ _ _
    (inv.listed told out files) (c.list_page.ensures.told told out (inv.files ∙ files)) c.requires.distinct c.index-pages-at.is c.loop-at-test.true
    c.in_err-shown.was (p.1 ∙ ap Err p.2)

pub loop-at-preserved : goal.loop-at-preserved
loop-at-preserved g c =
    let inv = c.loop-at.invariant in
    let with = c.with-all.ensures in
    record {
      listed = λ told out files.
          one_more told c.args.pages.now c.loop-at.at c.index-pages-at.result c.loop-at.all c.in_ok-shown.shown c.with-all.result
          c.list_page.result
          _ _ _ _ _ _
          (inv.listed told out files) (c.list_page.ensures.told told out (inv.files ∙ files)) c.requires.distinct c.index-pages-at.is c.loop-at-test.true
          c.in_ok-shown.was with;
      files = c.in_ok-shown.ensures.same_files ∙ inv.files;
      counts = counts_more c.loop-at.all c.in_ok-shown.shown c.with-all.result _ _ _ with inv.counts c.in_ok-shown.ensures.counts;
      report_faults = c.in_ok-shown.ensures.stops ∙ inv.report_faults;
    }

pub returns-clause-told : goal.returns-clause-told
returns-clause-told g c told out files =
    let names : List (List ℕ) = c.args.pages.now in
    lists_named told (take c.loop-at.at names) names (Ok c.loop-at.all) _ _ _ _ (take_all c.loop-at.at names c.loop-at-test.false)
    (c.loop-at.invariant.listed told out files)
