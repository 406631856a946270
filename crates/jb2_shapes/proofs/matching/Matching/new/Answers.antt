use Rattle.std.proofs.Common.{sym, subst, pos, ◌+ℤ◌, ◌≤ℤ◌}
use Rattle.std.specs.Arc.{arc_value}
use Rattle.bit_plane.specs.declared.ink.InkBox.{InkBox}
use Rattle.jb2_shapes.proofs.matching.Matching.new.Goals as goal

pub width-requires-clause-order : goal.width-requires-clause-order
width-requires-clause-order c =
    subst (λ (b : InkBox). b.left ≤ℤ (b.right +ℤ pos 1)) (sym c.requires) (c.ink_laws.ensures.inside (arc_value c.args.matched)).width

pub height-requires-clause-order : goal.height-requires-clause-order
height-requires-clause-order c =
    subst (λ (b : InkBox). b.bottom ≤ℤ (b.top +ℤ pos 1)) (sym c.requires) (c.ink_laws.ensures.inside (arc_value c.args.matched)).height
