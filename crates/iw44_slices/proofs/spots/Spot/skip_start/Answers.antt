use Rattle.std.proofs.Common.{◌<◌, sym, subst, arith}
use Rattle.iw44_slices.specs.Reader.{Left}
use Rattle.iw44_slices.specs.Moves.{steps_left}
use Rattle.iw44_slices.specs.declared.spots.Spot.{Spot}
use Rattle.iw44_slices.proofs.Passing.{start_passes, starts_are_over}
use Rattle.iw44_slices.proofs.Nearing.{start_inside, start_passes_nearer, starts_over_nearer}
use Rattle.iw44_slices.proofs.spots.Spot.skip_start.Goals as goal

pub overflow_add-self : goal.overflow_add-self
overflow_add-self c =
    let some = c.requires.some in
    let is = start_inside some.1.0 some.1.1 some.0 c.args.self.now c.requires.stage some.1.2 in
    let few = is.bucket in
    omega arith

pub pass-requires : goal.pass-requires
pass-requires c =
    let some = c.requires.some in
    let is = start_inside some.1.0 some.1.1 some.0 c.args.self.now c.requires.stage some.1.2 in
    is.index (omega (arith, c.if-self-eq0.false))

pub returns-then-self-eq0-clause-left : goal.returns-then-self-eq0-clause-left
returns-then-self-eq0-clause-left c slice course plane left = starts_are_over slice course plane c.args.self.now c.requires.stage c.if-self-eq0.true left

pub returns-then-self-eq0-clause-fewer : goal.returns-then-self-eq0-clause-fewer
returns-then-self-eq0-clause-fewer c slice course plane left =
    starts_over_nearer plane c.args.self.now c.requires.stage (start_inside slice course plane c.args.self.now c.requires.stage left)

pub returns-else-self-eq0-clause-left : goal.returns-else-self-eq0-clause-left
returns-else-self-eq0-clause-left c slice course plane left =
    let more : 0 < c.args.self.now.word = omega (arith, c.if-self-eq0.false) in
    subst (λ (spot : Spot). Left slice course plane spot) (sym c.pass.ensures)
    (start_passes slice course plane c.args.self.now c.requires.stage c.requires.open more left)

pub returns-else-self-eq0-clause-fewer : goal.returns-else-self-eq0-clause-fewer
returns-else-self-eq0-clause-fewer c slice course plane left =
    let more : 0 < c.args.self.now.word = omega (arith, c.if-self-eq0.false) in
    subst (λ (spot : Spot). steps_left plane spot < steps_left plane c.args.self.now) (sym c.pass.ensures)
    (start_passes_nearer plane c.args.self.now c.requires.stage more (start_inside slice course plane c.args.self.now c.requires.stage left))
