use Rattle.std.proofs.Common.{◌≡◌, arith, ap, ◌∙◌}
use Rattle.layer_compose.proofs.Summing.{rows_total, sum_by_rows}
use Rattle.layer_compose.proofs.layers.Layers.sum_of_rows.Goals as goal

pub returns : goal.returns
returns c =
    let all : c.loop-y.y ≡ c.args.self.now.height = omega arith in
    c.loop-y.invariant.sum ∙ ap (rows_total c.args.self.now) all ∙ sum_by_rows c.args.self.now
