use Rattle.std.proofs.Common.{arith, ap, ◌∙◌}
use Rattle.std.proofs.lemmas.Int.{ints}
use Rattle.bit_plane.specs.Pixels.{is_black}
use Rattle.bit_plane.proofs.PaintLemmas.{got}
use Rattle.bit_plane.proofs.planes.Plane.get.Goals as goal

pub returns : goal.returns
returns c =
    got c.self.inside.columns c.self.inside.rows c.self.inside.words.items c.args.x c.args.y c.in-Some.column c.in-Some-place.row c.is_set.result
    (omega (arith, ints, c.in-Some.ensures.0)) (omega (arith, ints, c.in-Some-place.ensures.0)) c.in-Some.ensures.1 c.in-Some-place.ensures.1
    (rw c.deref.ensures.value at c.is_set.ensures)
    ∙ ap (λ plane. is_black plane c.args.x c.args.y) c.self.view_is
