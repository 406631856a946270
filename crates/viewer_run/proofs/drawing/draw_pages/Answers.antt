use Rattle.std.proofs.Common.{ℕ, Option, List, refl, sym, ap, ◌∙◌, subst, arith}
use Rattle.std.proofs.lemmas.List.{length-map}
use Rattle.std.proofs.lemmas.Result.{err_from_is_err_and}
use Rattle.djvu_base.specs.Library.{Files, library_of}
use Rattle.viewer_words.specs.Lines.{name_at}
use Rattle.viewer_run.specs.Drawing.{IsPut, StopsPutting}
use Rattle.viewer_run.specs.Ended.{around}
use Rattle.viewer_run.specs.Plan.{number_of, numbers_of}
use Rattle.viewer_run.specs.Shown.{BrokenCounts}
use Rattle.viewer_run.proofs.AllPages.{drew_none, drew_more, is_next, broken_more}
use Rattle.viewer_run.proofs.Drawn.{WorkLaws, shows_nothing, shows_stopped, shows_all, ticks_stopped, ticks_all}
use Rattle.viewer_run.proofs.Few.{few_pages, page_numbered}
use Rattle.viewer_run.proofs.drawing.draw_pages.Goals as goal

pub loop-at-init : goal.loop-at-init
loop-at-init g c =
    let begun = c.in_ok-run.ensures in
    record {
      drew = drew_none _ c.args.table.now c.args.names (numbers_of c.args.names c.args.pages.now) c.in_ok-run.run' _ c.requires.over begun.follows begun.names
          begun.pages begun.read begun.table begun.fresh begun.sound;
      files = refl;
      counts = subst (λ b. BrokenCounts b (g.F.Folder.faults c.args.folder.now) (g.F.Folder.faults c.args.folder.now)) (sym begun.sound) refl;
      out_faults = refl;
      report_faults = refl;
    }

pub overflow_cast-at : goal.overflow_cast-at
overflow_cast-at g c =
    let few = few_pages c.args.names c.args.pages.now c.requires.listed.listed c.requires.distinct in
    let names = c.requires.listed.few in
    omega (arith, few, names, c.loop-at-test.true)

pub draw_page-requires-clause-over : goal.draw_page-requires-clause-over
draw_page-requires-clause-over g c told files = c.loop-at.invariant.drew.names_so ∙ c.requires.over told (sym c.loop-at.invariant.files ∙ files)

pub draw_page-requires-clause-next : goal.draw_page-requires-clause-next
draw_page-requires-clause-next g c =
    let page : List ℕ = c.index-pages-at.result in
    let names : List (List ℕ) = c.args.names in
    let pages : List (List ℕ) = c.args.pages.now in
    let numbered = page_numbered names pages c.loop-at.at page c.requires.listed.listed c.loop-at-test.true c.index-pages-at.is in
    is_next _ c.args.table.now names (numbers_of names pages) c.loop-at.at (number_of names page) c.loop-at.run c.loop-at.refused _ _
    c.loop-at.invariant.drew numbered.found

pub returns-in_err-run-clause-told : goal.returns-in_err-run-clause-told
returns-in_err-run-clause-told g c told files =
    let p = err_from_is_err_and c.from_residual.result c.from_residual.ensures.1 in
    rw p.1 (shows_nothing (library_of told) c.args.table.now (numbers_of c.args.names c.args.pages.now) p.0 _)

pub returns-in_err-is_refused-clause-told : goal.returns-in_err-is_refused-clause-told
returns-in_err-is_refused-clause-told g c told files =
    let p = err_from_is_err_and c.from_residual-in_err-is_refused.result c.from_residual-in_err-is_refused.ensures.1 in
    let inv = c.loop-at.invariant in
    let drew = inv.drew in
    let page : List ℕ = c.index-pages-at.result in
    let names : List (List ℕ) = c.args.names in
    let pages : List (List ℕ) = c.args.pages.now in
    let file = number_of names page in
    let numbered = page_numbered names pages c.loop-at.at page c.requires.listed.listed c.loop-at-test.true c.index-pages-at.is in
    let before =
    around (g.F.Folder.failures c.args.folder.now) (g.S.Sink.given c.args.out.now) (g.E.Sink.given c.args.report.now) (g.M.Meter.count c.args.meter.now) in
    let mid =
    around (g.F.Folder.failures c.loop-at.folder) (g.S.Sink.given c.loop-at.out) (g.E.Sink.given c.loop-at.report) (g.M.Meter.count c.loop-at.meter) in
    let after =
    around (g.F.Folder.failures c.draw_page.new.folder) (g.S.Sink.given c.draw_page.new.out) (g.E.Sink.given c.draw_page.new.report)
    (g.M.Meter.count c.draw_page.new.meter) in
    let told_of : Option Files = g.F.Folder.files c.args.folder.now in
    let come = drew.to_come c.loop-at.at file (omega arith) numbered.found in
    let stop =
    subst (λ t. StopsPutting t c.loop-at.at file drew.state drew.counts c.loop-at.run mid after) inv.files
    (c.in_err-is_refused.ensures.puts drew.state drew.counts file drew.follows come.0 (numbered.named ∙ ap (λ n. name_at n file) (sym drew.names_so))) in
    let laws : WorkLaws = record {
      most = c.counts_are_work.ensures.most;
      all = c.counts_are_work.ensures.all;
      stay = c.counts_stay_within.ensures;
      reached = c.reached_files_stay.ensures;
      within = c.standing_counts.ensures.within;
      files = c.standing_counts.ensures.files;
      pages = c.standing_counts.ensures.pages;
      ended = c.ended_counts.ensures;
    } in
    rw p.1 (shows_stopped told_of c.args.table.now names (numbers_of names pages) c.loop-at.at file c.loop-at.run c.loop-at.refused before mid after drew
    numbered.found stop
    told files (c.requires.over told files) laws c.libraries_go_on.ensures.both c.libraries_go_on.ensures.over p.0)

pub returns-in_err-is_refused-clause-only_ticks : goal.returns-in_err-is_refused-clause-only_ticks
returns-in_err-is_refused-clause-only_ticks g c =
    let inv = c.loop-at.invariant in
    let drew = inv.drew in
    let page : List ℕ = c.index-pages-at.result in
    let names : List (List ℕ) = c.args.names in
    let pages : List (List ℕ) = c.args.pages.now in
    let file = number_of names page in
    let numbered = page_numbered names pages c.loop-at.at page c.requires.listed.listed c.loop-at-test.true c.index-pages-at.is in
    let before =
    around (g.F.Folder.failures c.args.folder.now) (g.S.Sink.given c.args.out.now) (g.E.Sink.given c.args.report.now) (g.M.Meter.count c.args.meter.now) in
    let mid =
    around (g.F.Folder.failures c.loop-at.folder) (g.S.Sink.given c.loop-at.out) (g.E.Sink.given c.loop-at.report) (g.M.Meter.count c.loop-at.meter) in
    let after =
    around (g.F.Folder.failures c.draw_page.new.folder) (g.S.Sink.given c.draw_page.new.out) (g.E.Sink.given c.draw_page.new.report)
    (g.M.Meter.count c.draw_page.new.meter) in
    let told_of : Option Files = g.F.Folder.files c.args.folder.now in
    let come = drew.to_come c.loop-at.at file (omega arith) numbered.found in
    let stop =
    subst (λ t. StopsPutting t c.loop-at.at file drew.state drew.counts c.loop-at.run mid after) inv.files
    (c.in_err-is_refused.ensures.puts drew.state drew.counts file drew.follows come.0 (numbered.named ∙ ap (λ n. name_at n file) (sym drew.names_so))) in
    ticks_stopped told_of c.args.table.now names (numbers_of names pages) c.loop-at.at file c.loop-at.run c.loop-at.refused before mid after drew numbered.found
    stop

pub loop-at-preserved : goal.loop-at-preserved
loop-at-preserved g c =
    let inv = c.loop-at.invariant in
    let drew = inv.drew in
    let page : List ℕ = c.index-pages-at.result in
    let names : List (List ℕ) = c.args.names in
    let pages : List (List ℕ) = c.args.pages.now in
    let file = number_of names page in
    let numbered = page_numbered names pages c.loop-at.at page c.requires.listed.listed c.loop-at-test.true c.index-pages-at.is in
    let before =
    around (g.F.Folder.failures c.args.folder.now) (g.S.Sink.given c.args.out.now) (g.E.Sink.given c.args.report.now) (g.M.Meter.count c.args.meter.now) in
    let mid =
    around (g.F.Folder.failures c.loop-at.folder) (g.S.Sink.given c.loop-at.out) (g.E.Sink.given c.loop-at.report) (g.M.Meter.count c.loop-at.meter) in
    let after =
    around (g.F.Folder.failures c.draw_page.new.folder) (g.S.Sink.given c.draw_page.new.out) (g.E.Sink.given c.draw_page.new.report)
    (g.M.Meter.count c.draw_page.new.meter) in
    let told_of : Option Files = g.F.Folder.files c.args.folder.now in
    let come = drew.to_come c.loop-at.at file (omega arith) numbered.found in
    let said = c.in_ok-is_refused.ensures in
    let put =
    subst (λ t. IsPut t c.loop-at.at file drew.state drew.counts c.loop-at.run c.draw_page.new.run c.in_ok-is_refused.is_refused mid after) inv.files
    (said.puts drew.state drew.counts file drew.follows come.0 (numbered.named ∙ ap (λ n. name_at n file) (sym drew.names_so))) in
    record {
      drew = drew_more told_of c.args.table.now names (numbers_of names pages) c.loop-at.at file c.loop-at.run c.draw_page.new.run c.loop-at.refused
          c.in_ok-is_refused.is_refused before mid after c.libraries_go_on.ensures.over c.requires.over drew numbered.found put;
      files = said.same_files ∙ inv.files;
      counts = broken_more c.loop-at.run.broken c.draw_page.new.run.broken _ _ _ inv.counts said.counts;
      out_faults = said.sinks_end.0 ∙ inv.out_faults;
      report_faults = said.sinks_end.1 ∙ inv.report_faults;
    }

pub returns-clause-told : goal.returns-clause-told
returns-clause-told g c told files =
    let names : List (List ℕ) = c.args.names in
    let pages : List (List ℕ) = c.args.pages.now in
    let many = length-map pages (number_of names) in
    let laws : WorkLaws = record {
      most = c.counts_are_work.ensures.most;
      all = c.counts_are_work.ensures.all;
      stay = c.counts_stay_within.ensures;
      reached = c.reached_files_stay.ensures;
      within = c.standing_counts.ensures.within;
      files = c.standing_counts.ensures.files;
      pages = c.standing_counts.ensures.pages;
      ended = c.ended_counts.ensures;
    } in
    shows_all _ c.args.table.now names (numbers_of names pages) c.loop-at.at c.loop-at.run c.loop-at.refused _ _ c.loop-at.invariant.drew
    (omega (arith, many, c.loop-at-test.false)) told files (c.requires.over told files) laws c.libraries_go_on.ensures.over

pub returns-clause-only_ticks : goal.returns-clause-only_ticks
returns-clause-only_ticks g c =
    let names : List (List ℕ) = c.args.names in
    let pages : List (List ℕ) = c.args.pages.now in
    let many = length-map pages (number_of names) in
    ticks_all _ c.args.table.now names (numbers_of names pages) c.loop-at.at c.loop-at.run c.loop-at.refused _ _ c.loop-at.invariant.drew
    (omega (arith, many, c.loop-at-test.false))
