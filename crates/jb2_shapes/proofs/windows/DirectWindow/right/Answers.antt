use Rattle.std.proofs.Common.{refl, arith}
use Rattle.jb2_shapes.proofs.Windowing.{window_next}
use Rattle.jb2_shapes.proofs.windows.DirectWindow.right.Goals as goal

pub returns : goal.returns
returns c shape x y window colour =
    window_next shape x y c.args.self _ c.is_set.result c.is_set-2.result c.args.black window colour c.requires
    c.joined.ensures c.joined-2.ensures c.joined-3.ensures c.is_set.ensures c.is_set-2.ensures refl refl (omega arith)
