use Rattle.std.proofs.Common.{ap, ◌∙◌, subst}
use Rattle.bit_plane.specs.Pixels.{Pixels, IsPlane, black_count}
use Rattle.bit_plane.proofs.Counting.{counted, whole_packed}
use Rattle.bit_plane.proofs.planes.Plane.black.Goals as goal

pub returns-clause-value : goal.returns-clause-value
returns-clause-value c =
    (rw c.deref.ensures.value at c.count_set.ensures)
    ∙ counted c.self.inside.columns c.self.inside.rows c.self.inside.words.items c.self.invariant
    ∙ ap black_count c.self.view_is

pub returns-clause-whole : goal.returns-clause-whole
returns-clause-whole c =
    let P : Pixels → Type 0 = λ plane. IsPlane plane in
    subst P c.self.view_is (whole_packed c.self.inside.columns c.self.inside.rows c.self.inside.words.items)
