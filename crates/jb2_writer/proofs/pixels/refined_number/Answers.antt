use Rattle.std.proofs.Common.{ap, sym, ◌∙◌}
use Rattle.jb2_shapes.specs.Numbers.{number_of}
use Rattle.jb2_writer.proofs.Sketching.{refined_colours}
use Rattle.jb2_writer.proofs.pixels.refined_number.Goals as goal

pub returns-clause-is : goal.returns-clause-is
returns-clause-is c =
    ap number_of (sym (refined_colours c.args.sketch.now c.args.x c.args.y c.args.matched.now c.args.shift.right c.args.shift.up _ _ _ _ _ _ _ _ _ _ _
    c.near.ensures c.near-2.ensures c.near-3.ensures c.near-4.ensures
    c.beside.ensures c.beside-2.ensures c.beside-3.ensures c.beside-4.ensures c.beside-5.ensures c.beside-6.ensures c.beside-7.ensures))
    ∙ c.number_of.ensures.is
