use Rattle.std.proofs.Common.{Bool, false, sym, subst}
use Rattle.iw44_slices.specs.Reader.{Left}
use Rattle.iw44_slices.specs.Moves.{after_bit}
use Rattle.iw44_slices.specs.declared.spots.Spot.{Spot}
use Rattle.iw44_slices.specs.declared.spots.Stage.TheVariants as stage
use Rattle.iw44_slices.proofs.Moving.{root_goes_on, root_ends}
use Rattle.iw44_slices.proofs.spots.Spot.take_root.Goals as goal

pub returns-then-bit : goal.returns-then-bit
returns-then-bit c slice course plane blocks left =
    subst (λ (bit : Bool). Left slice (after_bit course bit) plane (record c.args.self.now { stage = stage.Bucket; bucket = 0 })) (sym c.if-bit.true)
    (root_goes_on slice course plane c.args.self.now c.requires.stage left)

pub returns-else-bit : goal.returns-else-bit
returns-else-bit c slice course plane blocks left =
    subst (λ (bit : Bool). Left slice (after_bit course bit) plane c.next_block.new.self) (sym c.if-bit.false)
    (subst (λ (spot : Spot). Left slice (after_bit course false) plane spot) (sym c.next_block.ensures)
    (root_ends slice course plane c.args.self.now c.requires.stage left))
