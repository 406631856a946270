use Rattle.std.proofs.Common.{refl}
use Rattle.jb2_shapes.proofs.Windowing.{with_digit}
use Rattle.jb2_shapes.proofs.windows.two.Goals as goal

pub returns : goal.returns
returns c p q e f =
    with_digit _ _ _ _ _ c.joined-2.ensures (with_digit c.joined.result 0 0 _ _ c.joined.ensures refl (c.is_set.ensures p e)) (c.is_set-2.ensures q f)
