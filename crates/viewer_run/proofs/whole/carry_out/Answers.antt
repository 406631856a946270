use Rattle.std.proofs.Common.{List, ℕ, [], Err, refl, ap, sym, ◌∙◌, subst}
use Rattle.std.proofs.lemmas.Result.{err_from_is_err_and}
use Rattle.djvu_base.specs.Library.{library_of}
use Rattle.djvu_outside.specs.Parts.{Gives}
use Rattle.djvu_outside.proofs.Lemmas.{never_folder, sink_only, puts_report}
use Rattle.viewer_run.specs.Plan.{numbers_of}
use Rattle.viewer_run.specs.Ended.{around}
use Rattle.viewer_run.specs.Shown.{Shows}
use Rattle.viewer_run.specs.Start.{plan_by, plan_for}
use Rattle.viewer_run.proofs.Running.{runs_shown, runs_stopped, runs_refused, runs_early, never_shown, starts_alone}
use Rattle.viewer_run.proofs.whole.carry_out.Goals as goal

pub returns-in_err-line-clause-told : goal.returns-in_err-line-clause-told
returns-in_err-line-clause-told g c told files =
    let out = g.S.Sink.given c.args.out.now in
    let report = g.E.Sink.given c.args.report.now in
    let count = g.M.Meter.count c.args.meter.now in
    let p = err_from_is_err_and c.from_residual.result c.from_residual.ensures.1 in
    runs_early told c.args.words.now c.find_front.result c.in_err-line.field-0.0 c.from_residual.result
    (around (g.F.Folder.failures c.args.folder.now) out report count) (around (g.F.Folder.failures c.find_front.new.folder) out report count)
    c.in_err-line.was (c.find_front.ensures.failure told files) refl refl (p.1 ∙ ap Err p.2)

pub returns-in_err-line-clause-alone : goal.returns-in_err-line-clause-alone
returns-in_err-line-clause-alone g c asks =
    let here = around [] (g.S.Sink.given c.args.out.now) (g.E.Sink.given c.args.report.now) (g.M.Meter.count c.args.meter.now) in
    let alone = c.find_front.ensures.alone asks in
    let p = err_from_is_err_and c.from_residual.result c.from_residual.ensures.1 in (
      alone.0,
      runs_early [] c.args.words.now c.find_front.result c.in_err-line.field-0.0 c.from_residual.result here here
          c.in_err-line.was (starts_alone c.find_front.result c.args.words.now _ _ c.find_front.ensures.stops alone.1) refl refl (p.1 ∙ ap Err p.2),
    )

pub returns-in_err-shown-in-Accepted-clause-told : goal.returns-in_err-shown-in-Accepted-clause-told
returns-in_err-shown-in-Accepted-clause-told g c told files =
    let out = g.S.Sink.given c.args.out.now in
    let report = g.E.Sink.given c.args.report.now in
    let count = g.M.Meter.count c.args.meter.now in
    let before = around (g.F.Folder.failures c.args.folder.now) out report count in
    let mid = around (g.F.Folder.failures c.find_front.new.folder) out report count in
    let after =
    around (g.F.Folder.failures c.show_pages.new.folder) (g.S.Sink.given c.show_pages.new.out) (g.E.Sink.given c.show_pages.new.report)
    (g.M.Meter.count c.show_pages.new.meter) in
    let p = err_from_is_err_and c.from_residual-in_err-shown-in-Accepted.result c.from_residual-in_err-shown-in-Accepted.ensures.1 in
    runs_stopped told c.args.words.now c.in-Accepted.mode (numbers_of c.in-Accepted.names c.in-Accepted.pages)
    (ap plan_by (sym c.in-Accepted.is) ∙ c.in_ok-line.ensures.told told files)
    c.show_pages.result c.from_residual-in_err-shown-in-Accepted.result c.in_err-shown-in-Accepted.field-0.0 before mid after
    (ap (λ f. around f out report count) (c.in_ok-line.ensures.failure told files))
    (subst (λ (pages : List (List ℕ)).
    Shows (library_of told) (plan_for c.in-Accepted.mode (numbers_of c.in-Accepted.names pages)) c.show_pages.result mid after) c.slice-pages.ensures
    (c.show_pages.ensures.told told (c.in_ok-line.ensures.same_files ∙ files)))
    c.in_err-shown-in-Accepted.was
    (never_folder c.show_pages.result c.in_err-shown-in-Accepted.field-0.0 c.show_pages.ensures.no_folder c.in_err-shown-in-Accepted.was) (p.1 ∙ ap Err p.2)

pub returns-in_err-shown-in-Accepted-clause-alone : goal.returns-in_err-shown-in-Accepted-clause-alone
returns-in_err-shown-in-Accepted-clause-alone g c asks =
    absurd (never_shown c.args.words.now c.in-Accepted.mode (numbers_of c.in-Accepted.names c.in-Accepted.pages) asks
    (ap plan_by (sym c.in-Accepted.is) ∙ (c.in_ok-line.ensures.alone asks).2))

pub returns-in-Refused-clause-told : goal.returns-in-Refused-clause-told
returns-in-Refused-clause-told g c told files =
    let out = g.S.Sink.given c.args.out.now in
    let old = g.E.Sink.given c.args.report.now in
    let new = g.E.Sink.given c.refuse.new.report in
    let count = g.M.Meter.count c.args.meter.now in
    runs_refused told c.args.words.now c.in-Refused.line c.refuse.result
    (around (g.F.Folder.failures c.args.folder.now) out old count) (around (g.F.Folder.failures c.find_front.new.folder) out new count)
    (ap plan_by (sym c.in-Refused.is) ∙ c.in_ok-line.ensures.told told files) (c.in_ok-line.ensures.failure told files) refl
    (puts_report c.refuse.result old new out c.in-Refused.line
    (subst (λ (line : List ℕ). Gives c.refuse.result old new line) c.slice.ensures c.refuse.ensures.report_text))
    c.refuse.ensures.status (sink_only c.refuse.result _ _ c.refuse.ensures.stops)

pub returns-in-Refused-clause-alone : goal.returns-in-Refused-clause-alone
returns-in-Refused-clause-alone g c asks =
    let out = g.S.Sink.given c.args.out.now in
    let old = g.E.Sink.given c.args.report.now in
    let new = g.E.Sink.given c.refuse.new.report in
    let count = g.M.Meter.count c.args.meter.now in
    let alone = c.in_ok-line.ensures.alone asks in (
      alone.0,
      runs_refused [] c.args.words.now c.in-Refused.line c.refuse.result (around [] out old count) (around [] out new count)
          (ap plan_by (sym c.in-Refused.is) ∙ alone.2) refl refl
          (puts_report c.refuse.result old new out c.in-Refused.line
          (subst (λ (line : List ℕ). Gives c.refuse.result old new line) c.slice.ensures c.refuse.ensures.report_text))
          c.refuse.ensures.status (sink_only c.refuse.result _ _ c.refuse.ensures.stops),
    )

pub returns-in_ok-shown-in-Accepted-clause-told : goal.returns-in_ok-shown-in-Accepted-clause-told
returns-in_ok-shown-in-Accepted-clause-told g c told files =
    let out = g.S.Sink.given c.args.out.now in
    let report = g.E.Sink.given c.args.report.now in
    let count = g.M.Meter.count c.args.meter.now in
    let before = around (g.F.Folder.failures c.args.folder.now) out report count in
    let mid = around (g.F.Folder.failures c.find_front.new.folder) out report count in
    let after =
    around (g.F.Folder.failures c.show_pages.new.folder) (g.S.Sink.given c.show_pages.new.out) (g.E.Sink.given c.show_pages.new.report)
    (g.M.Meter.count c.show_pages.new.meter) in
    runs_shown told c.args.words.now c.in-Accepted.mode (numbers_of c.in-Accepted.names c.in-Accepted.pages)
    (ap plan_by (sym c.in-Accepted.is) ∙ c.in_ok-line.ensures.told told files)
    c.show_pages.result c.in_ok-shown-in-Accepted.shown c.status.result before mid after
    (ap (λ f. around f out report count) (c.in_ok-line.ensures.failure told files))
    (subst (λ (pages : List (List ℕ)).
    Shows (library_of told) (plan_for c.in-Accepted.mode (numbers_of c.in-Accepted.names pages)) c.show_pages.result mid after) c.slice-pages.ensures
    (c.show_pages.ensures.told told (c.in_ok-line.ensures.same_files ∙ files)))
    c.in_ok-shown-in-Accepted.was c.status.ensures

pub returns-in_ok-shown-in-Accepted-clause-alone : goal.returns-in_ok-shown-in-Accepted-clause-alone
returns-in_ok-shown-in-Accepted-clause-alone g c asks =
    absurd (never_shown c.args.words.now c.in-Accepted.mode (numbers_of c.in-Accepted.names c.in-Accepted.pages) asks
    (ap plan_by (sym c.in-Accepted.is) ∙ (c.in_ok-line.ensures.alone asks).2))
