use Rattle.std.proofs.Common.{◌≡◌, ◌≤◌, length, ap, ◌∙◌, arith}
use Rattle.jb2_records.specs.Limits.{shape_limit}
use Rattle.jb2_records.specs.Reader.{inherited_of}
use Rattle.jb2_records.specs.Library.{Library}
use Rattle.jb2_records.proofs.Libraries.{taken_few}
use Rattle.jb2_records.proofs.library.Library.take.Goals as goal

pub invariant_of-self : goal.invariant_of-self
invariant_of-self c =
    let none : c.self.inside.count ≡ 0 = c.self.invariant.unstarted (ap (λ (l : Library). l.started) c.self.view_is ∙ c.requires) in
    let most : length (inherited_of c.self.inside.inherited) ≤ shape_limit = omega (arith, c.inherited_count.ensures.count, c.inherited_count.ensures.most) in
    record {
      purpose = c.self.invariant.purpose;
      own_sides = c.self.invariant.own_sides;
      shapes = taken_few _ _ _ _ none most;
      own_few = c.self.invariant.own_few;
      own_area = c.self.invariant.own_area;
      unstarted = c.self.invariant.unstarted;
    }
