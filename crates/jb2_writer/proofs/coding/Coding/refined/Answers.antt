use Rattle.std.proofs.Common.{◌<◌, ◌*◌, ◌+◌, ℤ, pos, List, Bool}
use Rattle.bit_plane.specs.Ink.{ink_box_of}
use Rattle.bit_plane.specs.Pixels.{Pixels}
use Rattle.jb2_shapes.specs.Shape.{Sketch}
use Rattle.jb2_shapes.specs.Refined.{refined_context, column_shift, row_shift}
use Rattle.jb2_writer.proofs.Sketching.{first_drawn, drawn_on, in_area, moved_number}
use Rattle.jb2_writer.proofs.coding.Coding.refined.Goals as goal

abbrev near : Pixels → Pixels → Pixels → ℤ → ℤ → List Bool
near matched shape = refined_context matched (column_shift shape (ink_box_of matched)) (row_shift shape (ink_box_of matched))

pub loop-number-init : goal.loop-number-init
loop-number-init c =
    first_drawn (near c.args.matched.now c.args.shape.now) c.args.shape.now c.args.self.now c.width.result c.height.result c.in_ok-sketch.sketch
    c.requires.sound
    c.in_ok-sketch.ensures.value c.width.ensures c.height.ensures

pub loop-number-preserved : goal.loop-number-preserved
loop-number-preserved c =
    let sketch : Sketch = record { shape = c.loop-number.sketch; number = c.loop-number.number } in
    let within : c.loop-number.number < c.args.shape.now.width * c.args.shape.now.height =
    in_area c.loop-number.number c.width-2.result c.height-2.result c.args.shape.now.width c.args.shape.now.height c.loop-number-test.true
    c.width-2.ensures c.height-2.ensures in
    drawn_on (near c.args.matched.now c.args.shape.now) c.args.shape.now c.args.self.now c.loop-number.self c.pixel.new.self sketch
    (record { shape = c.draw.new.sketch; number = c.loop-number.number + 1 })
    _ _ c.refined_number.result c.near-black.result c.loop-number.invariant within c.place-at.ensures.column c.place-at.ensures.row c.near-black.ensures
    c.in_ok-pixel.ensures
    (moved_number c.args.matched.now c.loop-number.sketch c.shift_to-shift.result.right c.shift_to-shift.result.up
    (column_shift c.args.shape.now (ink_box_of c.args.matched.now)) (row_shift c.args.shape.now (ink_box_of c.args.matched.now))
    (pos c.place-at.result.x) (pos c.place-at.result.y) c.refined_number.result c.refined_number.ensures.is c.shift_to-shift.ensures.right
    c.shift_to-shift.ensures.up) c.draw.ensures
