use Rattle.std.proofs.Common.{◌≡◌, get_or, pos, ◌+ℤ◌, SFits, to_z, of_z, w64, arith, rules, ap, sym, subst, ◌∙◌}
use Rattle.std.proofs.lemmas.Int.{ints, clamps, to_z-of_z}
use Rattle.jb2_places.specs.declared.places.Spot.{Spot}
use Rattle.jb2_places.specs.After.{HasRoom}
use Rattle.jb2_places.proofs.Reaching.{reach_with_room, same_within}
use Rattle.jb2_places.proofs.Following.{same_after, further_spot}
use Rattle.jb2_places.specs.Place.{median}
use Rattle.jb2_places.proofs.places.Places.same_row.Goals as goal
use Rattle.jb2_places.proofs.places.Places.same_row.Goals.{After-moved-bottom}

-- the baseline is the median of what is kept
is_baseline : (c : After-moved-bottom) → c.moved-bottom.result ≡ median (get_or c.self.inside.bottoms 0 (pos 0)) (get_or c.self.inside.bottoms 1 (pos 0)) (get_or c.self.inside.bottoms 2 (pos 0)) +ℤ c.args.dy
is_baseline c =
    let first : SFits w64 (get_or c.self.inside.bottoms 0 (pos 0)) = search rules in
    let second : SFits w64 (get_or c.self.inside.bottoms 1 (pos 0)) = search rules in
    let third : SFits w64 (get_or c.self.inside.bottoms 2 (pos 0)) = search rules in
    let middle = simp to_z-of_z at c.median.ensures in
    let moved : c.moved-bottom.result ≡ c.median.result +ℤ c.args.dy = omega (arith, ints) in
    moved ∙ ap (λ z. z +ℤ c.args.dy) middle

pub moved-bottom-requires : goal.moved-bottom-requires
moved-bottom-requires c = record { low = omega (arith, ints, clamps); high = omega (arith, ints, clamps) }

pub from_zero-requires-clause-bottom : goal.from_zero-requires-clause-bottom
from_zero-requires-clause-bottom c = record { low = omega (arith, ints, clamps); high = omega (arith, ints, clamps) }

pub invariant_of-self : goal.invariant_of-self
invariant_of-self c =
    same_within c.self.inside.row_left c.self.inside.row_bottom c.self.inside.last_right c.self.inside.bottoms
    c.args.dx c.args.dy c.args.width c.moved-left.result _ _ _ _
    (reach_with_room _ (subst HasRoom (sym c.self.view_is) c.requires.room))
    c.ranges.dx c.ranges.dy c.requires.width
    (omega (arith, ints)) (omega (arith, ints, is_baseline (goal.at.invariant_of-self c).After-moved-bottom)) (omega (arith, ints)) (omega (arith, ints)) (omega (arith, ints))

pub returns-clause-spot : goal.returns-clause-spot
returns-clause-spot c = λ h earlier after.
    further_spot h earlier c.self.inside.row_left c.self.inside.row_bottom c.self.inside.last_right c.self.inside.bottoms
    c.args.dx c.args.dy c.args.width c.args.height (to_z w64 (of_z w64 c.moved-left.result)) (to_z w64 (of_z w64 c.moved-bottom.result))
    c.args.self.now c.from_zero.result c.self.view_is c.from_zero.ensures (omega (arith, ints))
    (omega (arith, ints, is_baseline (goal.at.returns-clause-spot c).After-moved-bottom)) after

pub returns-clause-after : goal.returns-clause-after
returns-clause-after c = λ h earlier after.
    same_after h earlier c.self.inside.row_left c.self.inside.row_bottom c.self.inside.last_right c.self.inside.bottoms
    c.args.dx c.args.dy c.args.width c.args.height c.moved-left.result _ _ _ _ c.args.self.now c.self.view_is
    (record { dx = c.ranges.dx; dy = c.ranges.dy; width = c.requires.width; height = c.requires.height })
    (omega (arith, ints)) (omega (arith, ints, is_baseline (goal.at.returns-clause-after c).After-moved-bottom)) (omega (arith, ints)) (omega (arith, ints)) (omega (arith, ints)) after

pub returns-clause-left : goal.returns-clause-left
returns-clause-left c =
    let left = ap (λ (spot : Spot). spot.left) c.from_zero.ensures in
    record { low = omega (arith, ints, left); high = omega (arith, ints, left) }

pub returns-clause-bottom : goal.returns-clause-bottom
returns-clause-bottom c =
    let bottom = ap (λ (spot : Spot). spot.bottom) c.from_zero.ensures in
    record { low = omega (arith, ints, clamps, bottom); high = omega (arith, ints, clamps, bottom) }
