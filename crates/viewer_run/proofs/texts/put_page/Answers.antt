use Rattle.std.proofs.Common.{◌≡◌, ◌++◌, List, ℕ, Ok, Err, refl, ap, ◌∙◌}
use Rattle.std.specs.Prelude.{⊤}
use Rattle.std.proofs.lemmas.Result.{err_from_is_err_and}
use Rattle.djvu_outside.specs.Puts.{to_out, to_report, Got, sinks}
use Rattle.djvu_outside.proofs.Lemmas.{puts_after, puts_more, puts_same, puts_out, puts_report}
use Rattle.viewer_run.specs.Found.{fault_text, raster_found}
use Rattle.viewer_run.proofs.Putting.{puts_found}
use Rattle.viewer_run.proofs.texts.put_page.Goals as goal

pub returns-in_err-put_text-clause-puts : goal.returns-in_err-put_text-clause-puts
returns-in_err-put_text-clause-puts g c =
    let found = c.args.found.now in
    let text : List ℕ = c.as_slice.result.now in
    let lines : List ℕ = c.args.lines.now ++ fault_text c.args.names.now c.args.page.now found.fault in
    let raster : List ℕ = raster_found found.fault found.layers in
    let same : text ≡ lines = c.as_slice.ensures.value ∙ c.in_ok-text.ensures in
    let all = puts_found c.args.names.now c.args.page.now c.args.lines.now found.fault found.layers in
    let p = err_from_is_err_and c.from_residual-in_err-put_text.result c.from_residual-in_err-put_text.ensures.1 in
    rw p.1 (puts_same {T = ⊤} (Err p.0) (to_report lines ++ to_out raster) _ _ _ all
    (puts_more {T = ⊤} (Err p.0) (to_report lines) (to_out raster) _ _ refl
    (puts_same {T = ⊤} (Err p.0) (to_report text) (to_report lines) _ _ (ap to_report same)
    (puts_report {T = ⊤} (Err p.0) _ _ (g.S.Sink.given c.args.out.now) text c.in_err-put_text.ensures.taken))))

pub returns-clause-puts : goal.returns-clause-puts
returns-clause-puts g c =
    let found = c.args.found.now in
    let text : List ℕ = c.as_slice.result.now in
    let lines : List ℕ = c.args.lines.now ++ fault_text c.args.names.now c.args.page.now found.fault in
    let raster : List ℕ = raster_found found.fault found.layers in
    let same : text ≡ lines = c.as_slice.ensures.value ∙ c.in_ok-text.ensures in
    let all = puts_found c.args.names.now c.args.page.now c.args.lines.now found.fault found.layers in
    let told : Got (to_report text) (sinks (g.S.Sink.given c.args.out.now) (g.E.Sink.given c.args.report.now))
    (sinks (g.S.Sink.given c.args.out.now) (g.E.Sink.given c.put_text.new.sink)) =
    puts_report {T = ⊤} (Ok tt) _ _ _ text c.in_ok-put_text.ensures.taken in
    puts_same c.put_found.result (to_report text ++ to_out raster) _ _ _ (ap (λ l. to_report l ++ to_out raster) same ∙ all)
    (puts_after c.put_found.result (to_report text) (to_out raster) _ _ _ told
    (puts_out c.put_found.result _ _ (g.E.Sink.given c.put_text.new.sink) raster c.put_found.ensures.taken))
