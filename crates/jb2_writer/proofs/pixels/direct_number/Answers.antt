use Rattle.std.proofs.Common.{ap, sym, ◌∙◌}
use Rattle.jb2_shapes.specs.Numbers.{number_of}
use Rattle.jb2_writer.proofs.Sketching.{direct_colours}
use Rattle.jb2_writer.proofs.pixels.direct_number.Goals as goal

pub returns-clause-is : goal.returns-clause-is
returns-clause-is c =
    ap number_of (sym (direct_colours c.args.sketch.now c.args.x c.args.y _ _ _ _ _ _ _ _ _ _
    c.near.ensures c.near-2.ensures c.near-3.ensures c.near-4.ensures c.near-5.ensures
    c.near-6.ensures c.near-7.ensures c.near-8.ensures c.near-9.ensures c.near-10.ensures))
    ∙ c.number_of.ensures.is
