use Rattle.std.proofs.Common.{refl}
use Rattle.jb2_shapes.proofs.Windowing.{with_digit}
use Rattle.jb2_shapes.proofs.windows.three.Goals as goal

pub returns : goal.returns
returns c p q r e f g =
    with_digit _ _ _ _ _ c.joined-3.ensures
    (with_digit _ _ _ _ _ c.joined-2.ensures (with_digit c.joined.result 0 0 _ _ c.joined.ensures refl (c.is_set.ensures p e)) (c.is_set-2.ensures q f))
    (c.is_set-3.ensures r g)
