use Rattle.std.proofs.Common.{◌≡◌, ◌≤◌, ℕ, Bool, ℤ, sym, ◌∙◌, ap, subst, arith, rules, unsigned_abs}
use mir.Val.{to_z, of_z}
use mir.Syntax.{w16}
use Rattle.iw44_blocks.specs.Plane.{Plane, coefficient, with_coefficient}
use Rattle.iw44_slices.specs.Bands.{threshold}
use Rattle.iw44_slices.specs.Slice.{raised, signed, is_negative}
use Rattle.iw44_slices.specs.Reader.{Left}
use Rattle.iw44_slices.specs.Moves.{after_bit}
use Rattle.iw44_slices.specs.declared.spots.Spot.{Spot}
use Rattle.iw44_slices.proofs.Moving.{raise_moves, raise_fits}
use Rattle.iw44_slices.proofs.Naming.{raise_used, raise_odd}
use Rattle.iw44_slices.proofs.Nearing.{raise_inside}
use Rattle.iw44_slices.proofs.spots.Spot.take_raise.Goals as goal

pub size_of-size-requires-clause-block : goal.size_of-size-requires-clause-block
size_of-size-requires-clause-block c =
    let some = c.requires.left in (raise_inside some.0 some.1 c.args.coefficients.now c.args.self.now c.requires.stage some.2.0).1

pub size_of-size-requires-clause-index : goal.size_of-size-requires-clause-index
size_of-size-requires-clause-index c =
    let some = c.requires.left in
    (raise_inside some.0 some.1 c.args.coefficients.now c.args.self.now c.requires.stage some.2.0).0.index
    (raise_odd c.args.self.now c.requires.stage c.requires.settled).1

pub is_negative-negative-requires-clause-block : goal.is_negative-negative-requires-clause-block
is_negative-negative-requires-clause-block c =
    let some = c.requires.left in (raise_inside some.0 some.1 c.args.coefficients.now c.args.self.now c.requires.stage some.2.0).1

pub is_negative-negative-requires-clause-index : goal.is_negative-negative-requires-clause-index
is_negative-negative-requires-clause-index c =
    let some = c.requires.left in
    (raise_inside some.0 some.1 c.args.coefficients.now c.args.self.now c.requires.stage some.2.0).0.index
    (raise_odd c.args.self.now c.requires.stage c.requires.settled).1

pub raised-after-requires-clause-threshold : goal.raised-after-requires-clause-threshold
raised-after-requires-clause-threshold c =
    let some = c.requires.left in
    let low = raise_used some.0 some.1 c.args.coefficients.now c.args.self.now c.requires.stage c.requires.settled some.2.0 in
    omega (arith, low, c.threshold.ensures)

pub signed-requires : goal.signed-requires
signed-requires c =
    let some = c.requires.left in
    let low = (raise_inside some.0 some.1 c.args.coefficients.now c.args.self.now c.requires.stage some.2.0).0.index
    (raise_odd c.args.self.now c.requires.stage c.requires.settled).1 in
    let fits = raise_fits some.0 some.1 c.args.coefficients.now c.args.self.now c.args.bit c.requires.stage c.requires.settled c.requires.plane low some.2.0
    some.2.1 in
    let same : c.raised-after.result
    ≡ raised (threshold c.args.self.now.number c.args.self.now.index)
    (unsigned_abs (coefficient c.args.coefficients.now c.args.self.now.block c.args.self.now.index)) c.args.bit =
    c.raised-after.ensures ∙ (ap (λ (n : ℕ). raised n c.size_of-size.result c.args.bit) c.threshold.ensures
    ∙ ap (λ (n : ℕ). raised (threshold c.args.self.now.number c.args.self.now.index) n c.args.bit) c.size_of-size.ensures.is) in
    subst (λ (n : ℕ). n ≤ 32767) (sym same) fits

pub set-requires-clause-block : goal.set-requires-clause-block
set-requires-clause-block c =
    let some = c.requires.left in (raise_inside some.0 some.1 c.args.coefficients.now c.args.self.now c.requires.stage some.2.0).1

pub set-requires-clause-index : goal.set-requires-clause-index
set-requires-clause-index c =
    let some = c.requires.left in
    (raise_inside some.0 some.1 c.args.coefficients.now c.args.self.now c.requires.stage some.2.0).0.index
    (raise_odd c.args.self.now c.requires.stage c.requires.settled).1

pub pass-requires : goal.pass-requires
pass-requires c =
    let some = c.requires.left in
    (raise_inside some.0 some.1 c.args.coefficients.now c.args.self.now c.requires.stage some.2.0).0.index
    (raise_odd c.args.self.now c.requires.stage c.requires.settled).1

pub returns-clause-left : goal.returns-clause-left
returns-clause-left c slice course left =
    let fits : to_z w16 (of_z w16 c.signed.result) ≡ c.signed.result = search rules in
    let old : ℤ = coefficient c.args.coefficients.now c.args.self.now.block c.args.self.now.index in
    let after : c.raised-after.result ≡ raised (threshold c.args.self.now.number c.args.self.now.index) (unsigned_abs old) c.args.bit =
    c.raised-after.ensures ∙ (ap (λ (n : ℕ). raised n c.size_of-size.result c.args.bit) c.threshold.ensures
    ∙ ap (λ (n : ℕ). raised (threshold c.args.self.now.number c.args.self.now.index) n c.args.bit) c.size_of-size.ensures.is) in
    let value : c.signed.result ≡ signed (is_negative old) (raised (threshold c.args.self.now.number c.args.self.now.index) (unsigned_abs old) c.args.bit) =
    c.signed.ensures ∙ (ap (λ (b : Bool). signed b c.raised-after.result) c.is_negative-negative.ensures ∙ ap (λ (n : ℕ). signed (is_negative old) n) after) in
    let plane : c.set.new.self ≡ with_coefficient c.args.coefficients.now c.args.self.now.block c.args.self.now.index c.signed.result =
    c.set.ensures ∙ ap (λ (v : ℤ). with_coefficient c.args.coefficients.now c.args.self.now.block c.args.self.now.index v) fits in
    subst (λ (p : Plane). Left slice (after_bit course c.args.bit) p c.pass.new.self) (sym plane)
    (subst (λ (s : Spot). Left slice (after_bit course c.args.bit)
    (with_coefficient c.args.coefficients.now c.args.self.now.block c.args.self.now.index c.signed.result) s) (sym c.pass.ensures)
    (raise_moves slice course c.args.coefficients.now c.args.self.now c.args.bit c.signed.result c.requires.stage c.requires.settled value left))
