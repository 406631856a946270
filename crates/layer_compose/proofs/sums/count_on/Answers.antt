use Rattle.std.proofs.Common.{◌≡◌, ◌-◌, arith, sym, ap, ◌∙◌}
use Rattle.layer_compose.specs.declared.sums.Side.TheVariants as side
use Rattle.layer_compose.specs.Sides.{count_on}
use Rattle.layer_compose.proofs.SideSums.{both_sides}
use Rattle.layer_compose.proofs.sums.count_on.Goals as goal

pub returns-in-Back-clause-count : goal.returns-in-Back-clause-count
returns-in-Back-clause-count c =
    let both = both_sides c.args.mask.now c.args.x c.args.y c.args.count in
    let left : c.args.count - c.count_masked-masked.result ≡ count_on side.Back c.args.mask.now c.args.x c.args.y c.args.count =
    omega (arith, c.count_masked-masked.ensures.count, both) in
    left ∙ ap (λ s. count_on s c.args.mask.now c.args.x c.args.y c.args.count) (sym c.in-Back.is)
