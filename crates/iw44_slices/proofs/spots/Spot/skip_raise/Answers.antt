use Rattle.std.proofs.Common.{◌≡◌, ◌<◌, ◌≤◌, ◌+◌, get_or, sym, subst, arith}
use Rattle.iw44_slices.specs.Bands.{band_of, bucket_count}
use Rattle.iw44_slices.specs.Reader.{Left}
use Rattle.iw44_slices.specs.Moves.{steps_left}
use Rattle.iw44_slices.specs.declared.spots.Spot.{Spot}
use Rattle.iw44_slices.proofs.Passing.{raise_passes, raises_go_on, raises_are_over}
use Rattle.iw44_slices.proofs.Nearing.{raise_inside, raise_passes_nearer, raises_go_on_nearer, raises_over_nearer}
use Rattle.iw44_slices.proofs.spots.Spot.skip_raise.Goals as goal

pub pass-requires : goal.pass-requires
pass-requires c =
    let some = c.requires.some in
    let is = (raise_inside some.0 some.1 c.args.coefficients.now c.args.self.now c.requires.stage some.2).0 in
    is.index (omega (arith, c.if-self-ne0.true))

pub overflow_add-self : goal.overflow_add-self
overflow_add-self c =
    let some = c.requires.some in
    let is = (raise_inside some.0 some.1 c.args.coefficients.now c.args.self.now c.requires.stage some.2).0 in
    let few = is.bucket in
    omega arith

pub next_block-requires : goal.next_block-requires
next_block-requires c =
    let some = c.requires.some in
    let inside = (raise_inside some.0 some.1 c.args.coefficients.now c.args.self.now c.requires.stage some.2).1 in
    omega (arith, inside, c.blocks-else-self-bucket_count.ensures.count)

pub returns-then-self-ne0-clause-left : goal.returns-then-self-ne0-clause-left
returns-then-self-ne0-clause-left c slice course left =
    let more : 0 < c.args.self.now.word = omega (arith, c.if-self-ne0.true) in
    subst (λ (spot : Spot). Left slice course c.args.coefficients.now spot) (sym c.pass.ensures)
    (raise_passes slice course c.args.coefficients.now c.args.self.now c.requires.stage c.requires.open more left)

pub returns-then-self-ne0-clause-fewer : goal.returns-then-self-ne0-clause-fewer
returns-then-self-ne0-clause-fewer c slice course left =
    let more : 0 < c.args.self.now.word = omega (arith, c.if-self-ne0.true) in
    subst (λ (spot : Spot). steps_left c.args.coefficients.now spot < steps_left c.args.coefficients.now c.args.self.now) (sym c.pass.ensures)
    (raise_passes_nearer c.args.coefficients.now c.args.self.now c.requires.stage more
    (raise_inside slice course c.args.coefficients.now c.args.self.now c.requires.stage left).0)

pub returns-then-self-bucket_count-clause-left : goal.returns-then-self-bucket_count-clause-left
returns-then-self-bucket_count-clause-left c slice course left =
    let none : c.args.self.now.word ≡ 0 = omega (arith, c.if-self-ne0.false) in
    let within : c.args.self.now.bucket + 1 < bucket_count (band_of c.args.self.now.number) =
    omega (arith, c.bucket_count.ensures.is, c.if-self-bucket_count.true) in
    subst (λ (spot : Spot). Left slice course c.args.coefficients.now spot) (sym c.open.ensures)
    (raises_go_on slice course c.args.coefficients.now c.args.self.now c.requires.stage none within left)

pub returns-then-self-bucket_count-clause-fewer : goal.returns-then-self-bucket_count-clause-fewer
returns-then-self-bucket_count-clause-fewer c slice course left =
    subst (λ (spot : Spot). steps_left c.args.coefficients.now spot < steps_left c.args.coefficients.now c.args.self.now) (sym c.open.ensures)
    (raises_go_on_nearer c.args.coefficients.now c.args.self.now (get_or c.args.self.now.active (c.args.self.now.bucket + 1) 0) c.requires.stage
    (raise_inside slice course c.args.coefficients.now c.args.self.now c.requires.stage left).0)

pub returns-else-self-bucket_count-clause-left : goal.returns-else-self-bucket_count-clause-left
returns-else-self-bucket_count-clause-left c slice course left =
    let none : c.args.self.now.word ≡ 0 = omega (arith, c.if-self-ne0.false) in
    let last : bucket_count (band_of c.args.self.now.number) ≤ c.args.self.now.bucket + 1 =
    omega (arith, c.bucket_count.ensures.is, c.if-self-bucket_count.false) in
    subst (λ (spot : Spot). Left slice course c.args.coefficients.now spot) (sym c.next_block.ensures)
    (raises_are_over slice course c.args.coefficients.now c.args.self.now c.requires.stage none last left)

pub returns-else-self-bucket_count-clause-fewer : goal.returns-else-self-bucket_count-clause-fewer
returns-else-self-bucket_count-clause-fewer c slice course left =
    subst (λ (spot : Spot). steps_left c.args.coefficients.now spot < steps_left c.args.coefficients.now c.args.self.now) (sym c.next_block.ensures)
    (raises_over_nearer c.args.coefficients.now c.args.self.now c.requires.stage
    (raise_inside slice course c.args.coefficients.now c.args.self.now c.requires.stage left).1)
