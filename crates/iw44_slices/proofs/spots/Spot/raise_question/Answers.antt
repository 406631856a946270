use Rattle.std.proofs.Common.{◌≡◌, ℕ, sym, ◌∙◌, ap, arith, true, false, unsigned_abs}
use Rattle.iw44_blocks.specs.Plane.{coefficient}
use Rattle.iw44_slices.specs.Bands.{threshold}
use Rattle.iw44_slices.specs.Slice.{is_large}
use Rattle.iw44_slices.proofs.Nearing.{raise_inside}
use Rattle.iw44_slices.proofs.Naming.{raise_large, raise_small, raise_used, raise_odd}
use Rattle.iw44_slices.proofs.spots.Spot.raise_question.Goals as goal

pub size_of-size-requires-clause-block : goal.size_of-size-requires-clause-block
size_of-size-requires-clause-block c =
    (raise_inside c.requires.left.0 c.requires.left.1 c.args.coefficients.now c.args.self.now c.requires.stage c.requires.left.2).1

pub size_of-size-requires-clause-index : goal.size_of-size-requires-clause-index
size_of-size-requires-clause-index c =
    let is = (raise_inside c.requires.left.0 c.requires.left.1 c.args.coefficients.now c.args.self.now c.requires.stage c.requires.left.2).0 in
    is.index (raise_odd c.args.self.now c.requires.stage c.requires.settled).1

pub is_large-requires : goal.is_large-requires
is_large-requires c =
    let low = raise_used c.requires.left.0 c.requires.left.1 c.args.coefficients.now c.args.self.now c.requires.stage c.requires.settled c.requires.left.2 in
    omega (arith, low, c.threshold.ensures)

pub returns-then-is_large : goal.returns-then-is_large
returns-then-is_large c slice course left =
    let large : is_large (threshold c.args.self.now.number c.args.self.now.index)
    (unsigned_abs (coefficient c.args.coefficients.now c.args.self.now.block c.args.self.now.index)) ≡ true =
    ap (λ (t : ℕ). is_large t (unsigned_abs (coefficient c.args.coefficients.now c.args.self.now.block c.args.self.now.index))) (sym c.threshold.ensures)
    ∙ (ap (is_large c.threshold.result) (sym c.size_of-size.ensures.is) ∙ (sym c.is_large.ensures ∙ c.if-is_large.true)) in
    raise_large slice course c.args.coefficients.now c.args.self.now c.requires.stage c.requires.settled large left

pub returns-else-is_large : goal.returns-else-is_large
returns-else-is_large c slice course left =
    let large : is_large (threshold c.args.self.now.number c.args.self.now.index)
    (unsigned_abs (coefficient c.args.coefficients.now c.args.self.now.block c.args.self.now.index)) ≡ false =
    ap (λ (t : ℕ). is_large t (unsigned_abs (coefficient c.args.coefficients.now c.args.self.now.block c.args.self.now.index))) (sym c.threshold.ensures)
    ∙ (ap (is_large c.threshold.result) (sym c.size_of-size.ensures.is) ∙ (sym c.is_large.ensures ∙ c.if-is_large.false)) in
    raise_small slice course c.args.coefficients.now c.args.self.now c.requires.stage c.requires.settled large left
