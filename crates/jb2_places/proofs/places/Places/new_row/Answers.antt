use Rattle.std.proofs.Common.{arith, ap, sym, subst, to_z, of_z, w64}
use Rattle.std.proofs.lemmas.Int.{ints}
use Rattle.jb2_places.specs.declared.places.Spot.{Spot}
use Rattle.jb2_places.specs.After.{HasRoom}
use Rattle.jb2_places.proofs.Reaching.{reach_with_room, row_within}
use Rattle.jb2_places.proofs.Following.{row_after, row_spot}
use Rattle.jb2_places.proofs.places.Places.new_row.Goals as goal

pub invariant_of-self : goal.invariant_of-self
invariant_of-self c =
    row_within c.self.inside.row_left c.self.inside.row_bottom c.self.inside.last_right c.self.inside.bottoms
    c.args.dx c.args.dy c.args.width c.args.height _ _ _
    (reach_with_room _ (subst HasRoom (sym c.self.view_is) c.requires.room))
    c.ranges.dx c.ranges.dy c.requires.width c.requires.height
    (omega (arith, ints)) (omega (arith, ints)) (omega (arith, ints))

pub returns-clause-spot : goal.returns-clause-spot
returns-clause-spot c = λ h earlier after.
    row_spot h earlier c.self.inside.row_left c.self.inside.row_bottom c.self.inside.last_right c.self.inside.bottoms
    c.args.dx c.args.dy c.args.width c.args.height (to_z w64 (of_z w64 c.moved-left.result)) (to_z w64 (of_z w64 c.bottom_under-bottom.result))
    c.args.self.now c.from_zero.result c.self.view_is c.from_zero.ensures (omega (arith, ints)) (omega (arith, ints)) after

pub returns-clause-after : goal.returns-clause-after
returns-clause-after c = λ h earlier after.
    row_after h earlier c.self.inside.row_left c.self.inside.row_bottom c.self.inside.last_right c.self.inside.bottoms
    c.args.dx c.args.dy c.args.width c.args.height _ _ _ c.args.self.now c.self.view_is
    (record { dx = c.ranges.dx; dy = c.ranges.dy; width = c.requires.width; height = c.requires.height })
    (omega (arith, ints)) (omega (arith, ints)) (omega (arith, ints)) after

pub returns-clause-left : goal.returns-clause-left
returns-clause-left c =
    let left = ap (λ (spot : Spot). spot.left) c.from_zero.ensures in
    record { low = omega (arith, ints, left); high = omega (arith, ints, left) }

pub returns-clause-bottom : goal.returns-clause-bottom
returns-clause-bottom c =
    let bottom = ap (λ (spot : Spot). spot.bottom) c.from_zero.ensures in
    record { low = omega (arith, ints, bottom); high = omega (arith, ints, bottom) }
