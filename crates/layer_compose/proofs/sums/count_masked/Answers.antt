use Rattle.std.proofs.Common.{arith, sym, ap, ◌∙◌}
use Rattle.layer_compose.specs.declared.sums.Side.TheVariants as side
use Rattle.layer_compose.specs.Sides.{count_on}
use Rattle.layer_compose.proofs.SideSums.{ones_on, none_on, both_sides}
use Rattle.layer_compose.proofs.sums.count_masked.Goals as goal

pub returns-in-Some-clause-count : goal.returns-in-Some-clause-count
returns-in-Some-clause-count c =
    ones_on c.in-Some.mask c.args.x c.args.y c.args.count c.bits.result c.bits.ensures.below c.bits.ensures.digits
    ∙ ap (λ m. count_on side.Front m c.args.x c.args.y c.args.count) (sym c.in-Some.is)

pub returns-in-Some-clause-most : goal.returns-in-Some-clause-most
returns-in-Some-clause-most c =
    omega (
      arith,
      ones_on c.in-Some.mask c.args.x c.args.y c.args.count c.bits.result c.bits.ensures.below c.bits.ensures.digits,
      ap (λ m. count_on side.Front m c.args.x c.args.y c.args.count) (sym c.in-Some.is),
      both_sides c.args.mask.now c.args.x c.args.y c.args.count,
    )

pub returns-in-None-clause-count : goal.returns-in-None-clause-count
returns-in-None-clause-count c =
    none_on c.args.x c.args.y c.args.count ∙ ap (λ m. count_on side.Front m c.args.x c.args.y c.args.count) (sym c.in-None.is)
