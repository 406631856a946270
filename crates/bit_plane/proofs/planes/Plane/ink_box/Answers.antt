use Rattle.std.proofs.Common.{ap, ◌∙◌, arith, pos, ◌-ℤ◌, to_z, of_z, w32}
use Rattle.std.proofs.lemmas.Int.{ints}
use Rattle.bit_plane.specs.Ink.{ink_box_of}
use Rattle.bit_plane.proofs.InkBoxes.{clear_is, width_small, box_is}
use Rattle.bit_plane.proofs.InkLaws.{is_ink_box_at, box_within_at}
use Rattle.bit_plane.proofs.planes.Plane.ink_box.Goals as goal

pub returns-in_default : goal.returns-in_default
returns-in_default c =
    let value =
    c.no_ink.ensures ∙ clear_is c.self.inside.columns c.self.inside.rows c.self.inside.words.items (rw c.deref.ensures.value at c.in_default.ensures)
    ∙ ap ink_box_of c.self.view_is in
    record { value = value; ends = is_ink_box_at c.args.self.now _ value; inside = box_within_at c.args.self.now _ value }

pub signed-requires : goal.signed-requires
signed-requires c =
    let first = rw c.deref.ensures.value at c.in-Some.ensures in
    omega (arith, c.left_of_ink.ensures.within, width_small c.self.inside.columns c.self.inside.rows c.self.inside.words.items c.in-Some.first c.self.invariant first.set)

pub signed-requires-2 : goal.signed-requires-2
signed-requires-2 c =
    let first = rw c.deref.ensures.value at c.in-Some.ensures in
    omega (arith, c.behind_ink.ensures.within, width_small c.self.inside.columns c.self.inside.rows c.self.inside.words.items c.in-Some.first c.self.invariant first.set)

pub returns : goal.returns
returns c =
    let first = rw c.deref.ensures.value at c.in-Some.ensures in
    let last = rw c.deref-2.ensures.value at c.in-Some-last_set.ensures in
    let left = rw c.deref-3.ensures.value at c.left_of_ink.ensures in
    let behind = rw c.deref-4.ensures.value at c.behind_ink.ensures in
    let value =
    box_is c.self.inside.columns c.self.inside.rows c.self.inside.words.items c.in-Some.first c.in-Some-last_set.last c.left_of_ink.result c.behind_ink.result
    (to_z w32 (of_z w32 c.signed.result)) (to_z w32 (of_z w32 (to_z w32 (of_z w32 c.signed-2.result) -ℤ pos 1))) (to_z w32 (of_z w32 c.signed-3.result)) (to_z w32 (of_z w32 c.signed-4.result))
    c.self.invariant first last left behind
    (omega (arith, ints)) (omega (arith, ints)) (omega (arith, ints)) (omega (arith, ints))
    ∙ ap ink_box_of c.self.view_is in
    record { value = value; ends = is_ink_box_at c.args.self.now _ value; inside = box_within_at c.args.self.now _ value }
