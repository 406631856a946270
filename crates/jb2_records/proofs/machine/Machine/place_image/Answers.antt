use Rattle.std.proofs.Common.{ap, ◌∙◌}
use Rattle.std.specs.Arc.{arc_value}
use Rattle.bit_plane.specs.Pixels.{Pixels}
use Rattle.jb2_records.specs.Records.{whole_frame}
use Rattle.jb2_records.specs.Library.{with_used}
use Rattle.jb2_records.specs.Coding.{Got}
use Rattle.jb2_records.specs.Picture.{relative_of}
use Rattle.jb2_records.specs.Steps.{image_record, rest_of}
use Rattle.jb2_records.proofs.Marking.{checks_shape, place_refused, places_as, image_placed}
use Rattle.jb2_records.proofs.machine.Machine.place_image.Goals as goal

pub returns-in-Some-place_fault-clause-moves : goal.returns-in-Some-place_fault-clause-moves
unfolding rest_of
returns-in-Some-place_fault-clause-moves c input holds =
    place_refused input (λ later before. arc_value c.args.shape) (λ later before text at. Got
    (image_record c.args.made (arc_value c.args.shape) (relative_of c.args.steps)) at) c.args.self.now
    c.in-Some.picture c.in-Some-place_fault.fault c.place_fault.result c.in-Some.is c.in-Some-place_fault.is
    (checks_shape input c.args.self.now.library c.in-Some.picture (arc_value c.args.shape) c.deref.result.now c.place_fault.result c.deref.ensures
    (λ before shows. c.place_fault.ensures.fault input before shows)) holds

pub returns-clause-moves : goal.returns-clause-moves
unfolding rest_of
returns-clause-moves c input holds =
    c.next_record.ensures.holds input
    (image_placed input c.args.made (arc_value c.args.shape) c.whole.result c.args.steps c.args.self.now c.add.new.self c.in-Some.picture c.place.new.self
    c.place_fault.result
    c.in-Some.is c.in_default-place_fault.is (checks_shape input c.args.self.now.library c.in-Some.picture (arc_value c.args.shape) c.deref.result.now
    c.place_fault.result c.deref.ensures (λ before shows. c.place_fault.ensures.fault input before shows))
    (c.whole.ensures.frame ∙ ap whole_frame c.deref-4.ensures) (c.add.ensures ∙ ap (λ (s : Pixels). with_used s c.args.self.now.library) c.deref-2.ensures)
    (places_as input (arc_value c.args.shape) c.deref-3.result.now c.whole.result c.args.steps c.in-Some.picture c.place.new.self c.deref-3.ensures
    (λ before entry told shows. c.place.ensures input before entry told shows)) holds)
