use Rattle.std.proofs.Common.{◌≡◌, pos, to_z, of_z, w64, rules}
use Rattle.jb2_records.proofs.Making.{side_is, beside_sized, beside_refused}
use Rattle.jb2_records.proofs.machine.Machine.beside_sizes.Goals as goal

pub returns-in-Ok-clause-moves : goal.returns-in-Ok-clause-moves
returns-in-Ok-clause-moves c input stays =
    let columns : to_z w64 (of_z w64 c.from.result) ≡ pos c.ink_width.result = search rules in
    let wider : to_z w64 (of_z w64 c.from-2.result) ≡ c.args.wider = search rules in
    let rows : to_z w64 (of_z w64 c.from-3.result) ≡ pos c.ink_height.result = search rules in
    let higher : to_z w64 (of_z w64 c.from-4.result) ≡ c.args.higher = search rules in
    beside_sized input c.args.kept c.args.number c.args.wider c.args.higher _ _ c.in-Ok.width c.in-Ok.height c.shape-shape.result.now c.args.self.now
    c.shape-shape.ensures.shape (record {
      wide = side_is _ _ c.args.wider c.ink_width.result _ columns wider c.ink_width.ensures.most c.ranges.wider c.ink_width.ensures.extent;
      high = side_is _ _ c.args.higher c.ink_height.result _ rows higher c.ink_height.ensures.most c.ranges.higher c.ink_height.ensures.extent;
    }) (c.in-Ok.ensures.sound input) stays

pub returns-in-Err-clause-moves : goal.returns-in-Err-clause-moves
returns-in-Err-clause-moves c input stays =
    let columns : to_z w64 (of_z w64 c.from.result) ≡ pos c.ink_width.result = search rules in
    let wider : to_z w64 (of_z w64 c.from-2.result) ≡ c.args.wider = search rules in
    let rows : to_z w64 (of_z w64 c.from-3.result) ≡ pos c.ink_height.result = search rules in
    let higher : to_z w64 (of_z w64 c.from-4.result) ≡ c.args.higher = search rules in
    beside_refused input c.args.kept c.args.number c.args.wider c.args.higher _ _ c.in-Err.fault c.shape-shape.result.now c.args.self.now
    c.shape-shape.ensures.shape (record {
      wide = side_is _ _ c.args.wider c.ink_width.result _ columns wider c.ink_width.ensures.most c.ranges.wider c.ink_width.ensures.extent;
      high = side_is _ _ c.args.higher c.ink_height.result _ rows higher c.ink_height.ensures.most c.ranges.higher c.ink_height.ensures.extent;
    }) (c.in-Err.ensures.sound input) stays
