use Rattle.std.proofs.Common.{◌≡◌, ◌≤◌, ◌/◌, ◌+◌, ℕ, sym, ◌∙◌, ap, subst, arith}
use Rattle.std.proofs.Common.{rules, ℤ}
use mir.Val.{to_z, of_z}
use mir.Syntax.{w16}
use Rattle.iw44_blocks.specs.Plane.{Plane, with_coefficient}
use Rattle.iw44_slices.specs.Bands.{threshold}
use Rattle.iw44_slices.specs.Slice.{start_size, signed}
use Rattle.iw44_slices.specs.Reader.{Left}
use Rattle.iw44_slices.specs.Moves.{after_bit}
use Rattle.iw44_slices.specs.declared.spots.Spot.{Spot}
use Rattle.iw44_slices.specs.declared.spots.Stage.TheVariants as stage
use Rattle.iw44_slices.proofs.Moving.{sign_moves, sign_used, sign_fits}
use Rattle.iw44_slices.proofs.Nearing.{sign_inside}
use Rattle.iw44_slices.proofs.spots.Spot.take_sign.Goals as goal

pub start_size-size-requires : goal.start_size-size-requires
start_size-size-requires c =
    let some = c.requires.left in
    let low = sign_used some.0 some.1 c.args.coefficients.now c.args.self.now c.requires.stage some.2.0 in
    omega (arith, low, c.threshold.ensures)

pub signed-requires : goal.signed-requires
signed-requires c =
    let some = c.requires.left in
    let low = (sign_inside some.0 some.1 c.args.coefficients.now c.args.self.now c.requires.stage some.2.0).0 in
    let fits = sign_fits some.0 some.1 c.args.coefficients.now c.args.self.now c.args.bit c.requires.stage c.requires.plane low some.2.0 some.2.1 in
    subst (λ (n : ℕ). n ≤ 32767) (sym (c.start_size-size.ensures ∙ ap start_size c.threshold.ensures)) fits

pub set-requires-clause-block : goal.set-requires-clause-block
set-requires-clause-block c = let some = c.requires.left in (sign_inside some.0 some.1 c.args.coefficients.now c.args.self.now c.requires.stage some.2.0).1

pub set-requires-clause-index : goal.set-requires-clause-index
set-requires-clause-index c = let some = c.requires.left in (sign_inside some.0 some.1 c.args.coefficients.now c.args.self.now c.requires.stage some.2.0).0

pub pass-requires : goal.pass-requires
pass-requires c = let some = c.requires.left in (sign_inside some.0 some.1 c.args.coefficients.now c.args.self.now c.requires.stage some.2.0).0

pub returns-clause-left : goal.returns-clause-left
returns-clause-left c slice course left =
    let fits : to_z w16 (of_z w16 c.signed.result) ≡ c.signed.result = search rules in
    let value : c.signed.result ≡ signed c.args.bit (start_size (threshold c.args.self.now.number c.args.self.now.index)) =
    c.signed.ensures ∙ ap (signed c.args.bit) (c.start_size-size.ensures ∙ ap start_size c.threshold.ensures) in
    let plane : c.set.new.self ≡ with_coefficient c.args.coefficients.now c.args.self.now.block c.args.self.now.index c.signed.result =
    c.set.ensures ∙ ap (λ (v : ℤ). with_coefficient c.args.coefficients.now c.args.self.now.block c.args.self.now.index v) fits in
    let spot : record c.pass.new.self { stage = stage.Start; left = 0 }
    ≡ record c.args.self.now { stage = stage.Start; word = c.args.self.now.word / 2; index = c.args.self.now.index + 1; left = 0 } =
    ap (λ (s : Spot). record s { stage = stage.Start; left = 0 }) c.pass.ensures in
    subst (λ (p : Plane). Left slice (after_bit course c.args.bit) p (record c.pass.new.self { stage = stage.Start; left = 0 })) (sym plane)
    (subst (λ (s : Spot). Left slice (after_bit course c.args.bit)
    (with_coefficient c.args.coefficients.now c.args.self.now.block c.args.self.now.index c.signed.result) s) (sym spot)
    (sign_moves slice course c.args.coefficients.now c.args.self.now c.args.bit c.signed.result c.requires.stage value left))
