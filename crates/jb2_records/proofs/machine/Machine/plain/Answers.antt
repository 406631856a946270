use Rattle.std.proofs.Common.{◌≡◌, to_z, of_z, w32, rules, ap, ◌∙◌}
use Rattle.std.specs.Arc.{arc_value}
use Rattle.bit_plane.specs.Pixels.{Pixels}
use Rattle.jb2_records.specs.Library.{with_used}
use Rattle.bit_plane.specs.Ink.{unsigned}
use Rattle.jb2_records.specs.Coding.{Got}
use Rattle.jb2_records.specs.Records.{Plain}
use Rattle.jb2_records.proofs.Marking.{checks_shape, place_refused, plain_as, plain_placed}
use Rattle.jb2_records.proofs.machine.Machine.plain.Goals as goal

pub returns-in-Some-place_fault-clause-moves : goal.returns-in-Some-place_fault-clause-moves
returns-in-Some-place_fault-clause-moves c input stays =
    place_refused input (λ later before. arc_value c.args.shape) (λ later before text at. Got
    (Plain (arc_value c.args.shape) (unsigned c.args.left) (unsigned c.args.top)) at) c.args.self.now
    c.in-Some.picture c.in-Some-place_fault.fault c.place_fault.result c.in-Some.is c.in-Some-place_fault.is
    (checks_shape input c.args.self.now.library c.in-Some.picture (arc_value c.args.shape) c.deref.result.now c.place_fault.result c.deref.ensures
    (λ before shows. c.place_fault.ensures.fault input before shows)) stays

pub returns-clause-moves : goal.returns-clause-moves
returns-clause-moves c input stays =
    let left : to_z w32 (of_z w32 c.args.left) ≡ c.args.left = search rules in
    let top : to_z w32 (of_z w32 c.args.top) ≡ c.args.top = search rules in
    c.next_record.ensures.holds input
    (plain_placed input (arc_value c.args.shape) (unsigned c.args.left) (unsigned c.args.top) c.args.self.now c.add.new.self c.in-Some.picture
    c.place_plain.new.self c.place_fault.result
    c.in-Some.is c.in_default-place_fault.is (checks_shape input c.args.self.now.library c.in-Some.picture (arc_value c.args.shape) c.deref.result.now
    c.place_fault.result c.deref.ensures (λ before shows. c.place_fault.ensures.fault input before shows))
    (c.add.ensures ∙ ap (λ (s : Pixels). with_used s c.args.self.now.library) c.deref-2.ensures)
    (λ before shows. plain_as input (arc_value c.args.shape) c.deref-3.result.now c.args.left c.args.top (to_z w32 (of_z w32 c.args.left))
    (to_z w32 (of_z w32 c.args.top)) before
    c.place_plain.new.self c.deref-3.ensures left top (c.place_plain.ensures input before shows)) stays)
