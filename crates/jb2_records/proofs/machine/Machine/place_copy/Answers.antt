use Rattle.std.proofs.Common.{◌∙◌, ap, sym}
use Rattle.jb2_records.specs.Coding.{Got}
use Rattle.jb2_records.specs.Records.{Copy, ink_frame}
use Rattle.jb2_records.specs.Picture.{relative_of}
use Rattle.jb2_records.specs.Steps.{numbered, rest_of}
use Rattle.jb2_records.proofs.Marking.{checks_number, place_refused, copy_placed}
use Rattle.jb2_records.proofs.machine.Machine.place_copy.Goals as goal

pub returns-in-Some-place_fault-clause-moves : goal.returns-in-Some-place_fault-clause-moves
unfolding rest_of
returns-in-Some-place_fault-clause-moves c input holds =
    place_refused input (λ later before. numbered later before c.args.number)
    (λ later before text at. Got (Copy c.args.number (relative_of c.args.steps)) at) c.args.self.now
    c.in-Some.picture c.in-Some-place_fault.fault c.place_fault.result c.in-Some.is c.in-Some-place_fault.is
    (checks_number input c.args.self.now.library c.in-Some.picture c.args.number c.deref.result.now c.place_fault.result
    (c.deref.ensures ∙ c.plane.ensures.plane ∙ c.shape-shape.ensures.shape) (λ before shows. c.place_fault.ensures.fault input before shows)) holds

pub returns-clause-moves : goal.returns-clause-moves
unfolding rest_of
returns-clause-moves c input holds =
    c.next_record.ensures.holds input
    (copy_placed input c.args.number c.deref-2.result.now c.frame.result c.args.steps c.args.self.now c.in-Some.picture c.place.new.self
    c.place_fault.result c.in-Some.is c.in_default-place_fault.is
    (checks_number input c.args.self.now.library c.in-Some.picture c.args.number c.deref.result.now c.place_fault.result
    (c.deref.ensures ∙ c.plane.ensures.plane ∙ c.shape-shape.ensures.shape) (λ before shows. c.place_fault.ensures.fault input before shows))
    (c.deref-2.ensures ∙ c.plane-2.ensures.plane ∙ c.shape-shape.ensures.shape)
    (c.frame.ensures.frame ∙ ap ink_frame (sym (c.deref-2.ensures ∙ c.plane-2.ensures.plane)))
    (λ before entry told shows. c.place.ensures input before entry told shows) holds)
