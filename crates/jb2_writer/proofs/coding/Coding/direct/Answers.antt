use Rattle.std.proofs.Common.{◌<◌, ◌*◌, ◌+◌}
use Rattle.jb2_shapes.specs.Shape.{Sketch, direct_context}
use Rattle.jb2_writer.proofs.Sketching.{first_drawn, drawn_on, in_area}
use Rattle.jb2_writer.proofs.coding.Coding.direct.Goals as goal

pub loop-number-init : goal.loop-number-init
loop-number-init c =
    first_drawn direct_context c.args.shape.now c.args.self.now c.width.result c.height.result c.in_ok-sketch.sketch c.requires.sound
    c.in_ok-sketch.ensures.value c.width.ensures c.height.ensures

pub loop-number-preserved : goal.loop-number-preserved
loop-number-preserved c =
    let sketch : Sketch = record { shape = c.loop-number.sketch; number = c.loop-number.number } in
    let within : c.loop-number.number < c.args.shape.now.width * c.args.shape.now.height =
    in_area c.loop-number.number c.width-2.result c.height-2.result c.args.shape.now.width c.args.shape.now.height c.loop-number-test.true
    c.width-2.ensures c.height-2.ensures in
    drawn_on direct_context c.args.shape.now c.args.self.now c.loop-number.self c.pixel.new.self sketch
    (record { shape = c.draw.new.sketch; number = c.loop-number.number + 1 })
    _ _ c.direct_number.result c.near-black.result c.loop-number.invariant within c.place-at.ensures.column c.place-at.ensures.row c.near-black.ensures
    c.in_ok-pixel.ensures
    c.direct_number.ensures.is c.draw.ensures
