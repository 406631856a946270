use Rattle.std.proofs.Common.{ℕ, Bool, List, Err, sym, ◌∙◌, subst}
use Rattle.std.proofs.lemmas.Result.{err_from_is_err_and}
use Rattle.djvu_outside.specs.Parts.{SinksEnd}
use Rattle.djvu_outside.specs.Puts.{Got, GotPrefix, sinks}
use Rattle.viewer_run.specs.Drawing.{IsPut}
use Rattle.viewer_run.specs.Ended.{around}
use Rattle.viewer_run.specs.Found.{FaultFits, shown_found}
use Rattle.viewer_run.specs.Texts.{texts_at}
use Rattle.viewer_run.proofs.AllPages.{broken_grows}
use Rattle.viewer_run.proofs.OnePage.{stops_drawing, stops_putting, puts_all, sinks_still}
use Rattle.viewer_run.proofs.drawing.draw_page.Goals as goal

pub returns-in_err-found-clause-puts : goal.returns-in_err-found-clause-puts
returns-in_err-found-clause-puts g c state counts file follows found is =
    let p = err_from_is_err_and c.from_residual.result c.from_residual.ensures.1 in
    rw p.1 (stops_drawing _ c.args.page file state counts c.args.run.now _ _ _ _ _ (c.in_err-found.ensures.ends state counts file follows found))

pub returns-in_err-put_page-clause-puts : goal.returns-in_err-put_page-clause-puts
returns-in_err-put_page-clause-puts g c state counts file follows found is =
    let p = err_from_is_err_and c.from_residual-in_err-put_page.result c.from_residual-in_err-put_page.ensures.1 in
    let drawn = c.in_ok-found.ensures.ends state counts file follows found in
    let name : List ℕ = c.args.name.now in
    let names = c.slice.ensures ∙ drawn.gone.went.same.names in
    let before = sinks (g.S.Sink.given c.args.out.now) (g.E.Sink.given c.args.report.now) in
    let after = sinks (g.S.Sink.given c.put_page.new.out) (g.E.Sink.given c.put_page.new.report) in
    let shown = shown_found c.in_ok-found.found.fault c.in_ok-found.found.layers in
    rw p.1 (stops_putting _ c.args.page file state counts c.args.run.now c.draw.new.self name c.draw.new.lines.items c.in_ok-found.found _ _ _ _ follows is
    drawn before after c.libraries_go_on.ensures.over
    (subst (λ n. GotPrefix (texts_at n name c.draw.new.lines.items shown).puts before after) names
    (subst (λ l. GotPrefix (texts_at c.slice.result.now name l shown).puts before after) c.as_slice.ensures.value c.in_err-put_page.ensures.puts)))

pub returns-clause-puts : goal.returns-clause-puts
returns-clause-puts g c state counts file follows found is =
    let drawn = c.in_ok-found.ensures.ends state counts file follows found in
    let name : List ℕ = c.args.name.now in
    let names = c.slice.ensures ∙ drawn.gone.went.same.names in
    let before = sinks (g.S.Sink.given c.args.out.now) (g.E.Sink.given c.args.report.now) in
    let after = sinks (g.S.Sink.given c.put_page.new.out) (g.E.Sink.given c.put_page.new.report) in
    let shown = shown_found c.in_ok-found.found.fault c.in_ok-found.found.layers in
    let ended = around (g.F.Folder.failures c.draw.new.folder) (g.S.Sink.given c.put_page.new.out) (g.E.Sink.given c.put_page.new.report)
    (g.M.Meter.count c.draw.new.meter) in
    let begun = around (g.F.Folder.failures c.args.folder.now) (g.S.Sink.given c.args.out.now) (g.E.Sink.given c.args.report.now)
    (g.M.Meter.count c.args.meter.now) in
    subst (λ b. IsPut (g.F.Folder.files c.args.folder.now) c.args.page file state counts c.args.run.now c.draw.new.self b begun ended)
    (sym c.is_some.ensures)
    (puts_all (g.F.Folder.files c.args.folder.now) c.args.page file state counts c.args.run.now c.draw.new.self name c.draw.new.lines.items
    c.in_ok-found.found _ _ _ _ follows is drawn before after
    (subst (λ n. Got (texts_at n name c.draw.new.lines.items shown).puts before after) names
    (subst (λ l. Got (texts_at c.slice.result.now name l shown).puts before after) c.as_slice.ensures.value c.in_ok-put_page.ensures.puts)))

pub draw-requires-clause-can : goal.draw-requires-clause-can
draw-requires-clause-can g c = c.requires.next.can

pub returns-in_err-found-clause-sinks_end : goal.returns-in_err-found-clause-sinks_end
returns-in_err-found-clause-sinks_end g c =
    let p = err_from_is_err_and c.from_residual.result c.from_residual.ensures.1 in
    rw p.1 (subst (λ f. SinksEnd {T = Bool} (Err f) (g.S.Sink.faults c.args.out.now) (g.S.Sink.faults c.args.out.now) (g.E.Sink.faults c.args.report.now)
    (g.E.Sink.faults c.args.report.now)) (sym p.2) (sinks_still c.in_err-found.field-0.0 _ _ c.in_err-found.ensures.memory))

pub put_page-requires-clause-fits : goal.put_page-requires-clause-fits
put_page-requires-clause-fits g c =
    let next = c.requires.next in
    let drawn = c.in_ok-found.ensures.ends next.can.state next.can.counts next.file next.can.follows next.unread in
    subst (λ n. FaultFits n c.in_ok-found.found.fault) (sym (c.slice.ensures ∙ drawn.gone.went.same.names)) c.in_ok-found.ensures.fits

pub returns-in_err-put_page-clause-counts : goal.returns-in_err-put_page-clause-counts
returns-in_err-put_page-clause-counts g c =
    let p = err_from_is_err_and c.from_residual-in_err-put_page.result c.from_residual-in_err-put_page.ensures.1 in
    let failed = c.in_ok-found.ensures.counts in
    rw p.1 (broken_grows failed.0 _ _ failed.2)
