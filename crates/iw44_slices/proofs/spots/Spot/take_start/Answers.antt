use Rattle.std.proofs.Common.{◌≡◌, ◌-◌, ◌/◌, ◌+◌, ℕ, Bool, false, sym, ◌∙◌, ap, subst}
use Rattle.iw44_slices.specs.Reader.{Left}
use Rattle.iw44_slices.specs.Moves.{after_bit}
use Rattle.iw44_slices.specs.declared.spots.Spot.{Spot}
use Rattle.iw44_slices.specs.declared.spots.Stage.TheVariants as stage
use Rattle.iw44_slices.proofs.Moving.{start_begins, start_stays}
use Rattle.iw44_slices.proofs.Naming.{start_odd}
use Rattle.iw44_slices.proofs.Nearing.{start_inside}
use Rattle.iw44_slices.proofs.spots.Spot.take_start.Goals as goal

pub pass-requires : goal.pass-requires
pass-requires c =
    let some = c.requires.left in
    let is = start_inside some.1.0 some.1.1 some.0 c.args.self.now c.requires.stage some.1.2 in
    is.index (start_odd c.args.self.now c.requires.stage c.requires.settled).1

pub returns-then-bit : goal.returns-then-bit
returns-then-bit c slice course plane left =
    subst (λ (bit : Bool). Left slice (after_bit course bit) plane (record c.args.self.now { stage = stage.Sign })) (sym c.if-bit.true)
    (start_begins slice course plane c.args.self.now c.requires.stage c.requires.settled left)

pub returns-else-bit : goal.returns-else-bit
returns-else-bit c slice course plane left =
    let moved = start_stays slice course plane c.args.self.now c.requires.stage c.requires.settled left in
    let less : c.saturating_sub-self.result ≡ c.args.self.now.left - 1 = c.saturating_sub-self.ensures ∙ ap (λ (spot : Spot). spot.left - 1) c.pass.ensures in
    let same : record c.pass.new.self { left = c.saturating_sub-self.result }
    ≡ record c.args.self.now { word = c.args.self.now.word / 2; index = c.args.self.now.index + 1; left = c.args.self.now.left - 1 } =
    ap (λ (spot : Spot). record spot { left = c.saturating_sub-self.result }) c.pass.ensures
    ∙ ap (λ (n : ℕ). record c.args.self.now { word = c.args.self.now.word / 2; index = c.args.self.now.index + 1; left = n }) less in
    subst (λ (bit : Bool). Left slice (after_bit course bit) plane (record c.pass.new.self { left = c.saturating_sub-self.result })) (sym c.if-bit.false)
    (subst (λ (spot : Spot). Left slice (after_bit course false) plane spot) (sym same) moved)
