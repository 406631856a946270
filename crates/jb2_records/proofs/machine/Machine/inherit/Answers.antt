use Rattle.std.proofs.Common.{◌≡◌, ◌==◌, ℤ, to_z, of_z, w32, rules, sym, ap, ◌∙◌}
use Rattle.bit_plane.specs.Ink.{unsigned}
use Rattle.jb2_records.specs.Coding.{Got}
use Rattle.jb2_records.specs.Records.{Require}
use Rattle.jb2_records.specs.Reading.{count_fault}
use Rattle.jb2_records.proofs.Stepping.{refused_by}
use Rattle.jb2_records.proofs.Entering.{passed_by, take_adds}
use Rattle.jb2_records.proofs.machine.Machine.inherit.Goals as goal

pub returns-in-Some-clause-moves : goal.returns-in-Some-clause-moves
returns-in-Some-clause-moves c input stays =
    let fits : to_z w32 (of_z w32 c.args.count) ≡ c.args.count = search rules in
    refused_by input (λ later before. count_fault later c.args.count) (λ later before text at. Got
    (Require (unsigned c.args.count)) at) c.args.self.now c.in-Some.fault c.count_fault.result stays c.in-Some.is
    (c.count_fault.ensures input stays.before stays.keeps ∙ ap (λ (z : ℤ). count_fault input z) fits)

pub returns-clause-moves : goal.returns-clause-moves
returns-clause-moves c input stays =
    let fits : to_z w32 (of_z w32 c.args.count) ≡ c.args.count = search rules in
    let next = passed_by input (λ later before. count_fault later c.args.count)
    (λ later before text at. Got (Require (unsigned c.args.count)) at) c.args.self.now stays
    (sym (c.count_fault.ensures input stays.before stays.keeps ∙ ap (λ (z : ℤ). count_fault input z) fits) ∙ c.in_default.is) (λ later same. same) in
    c.next_record.ensures.holds input (take_adds input c.args.self.now c.take.new.self (unsigned c.args.count) next
    (c.take.ensures.keeps input next.before (unsigned c.args.count) (c.is_nothing.ensures ∙ ap (λ (z : ℤ). unsigned z == 0) fits) next.keeps))
