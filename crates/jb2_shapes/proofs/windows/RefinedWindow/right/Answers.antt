use Rattle.std.proofs.Common.{refl, arith}
use Rattle.jb2_shapes.proofs.RefinedWindowing.{refined_next}
use Rattle.jb2_shapes.proofs.windows.RefinedWindow.right.Goals as goal

pub returns : goal.returns
returns c matching shape x y window colour =
    refined_next matching shape x y c.args.self _ c.is_set.result c.is_set-2.result c.is_set-3.result c.is_set-4.result c.args.black window colour c.requires
    c.joined.ensures refl refl c.joined-2.ensures c.joined-3.ensures c.is_set.ensures c.is_set-2.ensures c.is_set-3.ensures c.is_set-4.ensures
    refl refl refl refl (omega arith)
