use Rattle.std.proofs.Common.{◌≡◌, ◌<◌, ◌∙◌, arith, rules, length}
use Rattle.std.proofs.lemmas.List.{with_items_is}
use Rattle.layer_compose.specs.Drawing.{drawing_width, drawing_height}
use Rattle.layer_compose.proofs.Steps.{steps_within, preview_is}
use Rattle.layer_compose.proofs.layers.Layers.preview.Goals as goal

pub rows_by_steps-requires-clause-columns : goal.rows_by_steps-requires-clause-columns
rows_by_steps-requires-clause-columns c =
    let some : 0 < c.preview_step-step.result = omega (arith, c.preview_step-step.ensures) in
    steps_within (drawing_width c.args.self.now) c.drawing_width-width.result c.preview_step-step.result c.div_ceil-columns.result some
    c.drawing_width-width.ensures.value c.div_ceil-columns.ensures

pub rows_by_steps-requires-clause-rows : goal.rows_by_steps-requires-clause-rows
rows_by_steps-requires-clause-rows c =
    let some : 0 < c.preview_step-step.result = omega (arith, c.preview_step-step.ensures) in
    steps_within (drawing_height c.args.self.now) c.drawing_height-height.result c.preview_step-step.result c.div_ceil-rows.result some
    c.drawing_height-height.ensures.value c.div_ceil-rows.ensures

pub returns : goal.returns
returns c =
    let size : length c.rows_by_steps.new.out ≡ c.in_ok-samples.samples.len = search rules in
    preview_is c.args.self.now c.drawing_width-width.result c.drawing_height-height.result c.preview_step-step.result c.div_ceil-columns.result c.div_ceil-rows.result
    _ c.new.result c.new.ensures c.drawing_width-width.ensures.value c.drawing_height-height.ensures.value c.preview_step-step.ensures c.div_ceil-columns.ensures c.div_ceil-rows.ensures
    (with_items_is c.in_ok-samples.samples c.rows_by_steps.new.out size ∙ c.rows_by_steps.ensures)
