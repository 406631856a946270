use Rattle.std.proofs.Common.{refl}
use Rattle.jb2_writer.specs.declared.coding.Coding.{Coding}
use Rattle.jb2_writer.specs.Coded.{Flag}
use Rattle.jb2_writer.proofs.Adding.{adds_bit, if_ok, flags_sound, same_below}
use Rattle.jb2_writer.proofs.coding.Coding.flag.Goals as goal

pub returns : goal.returns
returns c =
    let new : Coding = record c.args.self.now { encoder = c.encode.new.self; flag = c.encode.new.ctx } in
    let sound = flags_sound c.args.self.now new c.requires c.encode.ensures.table refl refl c.encode.ensures.below
    (same_below c.args.self.now new c.args.self.now.row c.encode.ensures.table c.requires.row) in
    if_ok _ _ _ c.encode.result c.encode.ensures.wrote (λ wrote.
    adds_bit c.args.self.now new Flag c.args.bit c.encode.new.ctx wrote refl sound c.encode.ensures.table)
