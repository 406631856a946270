use Rattle.std.proofs.Common.{sym, ap, ◌∙◌}
use Rattle.jb2_records.specs.Reader.{inherited_of}
use Rattle.jb2_records.proofs.Libraries.{joined_few}
use Rattle.jb2_records.proofs.library.Library.into_dictionary.Goals as goal

pub of-requires-2 : goal.of-requires-2
of-requires-2 c = record {
  sides = c.in_ok-shapes.ensures.sides;
  most = joined_few c.in_ok-shapes.shapes.items c.deref.result.now c.self.inside.own.items (inherited_of c.self.inside.inherited) c.self.inside.takes
      c.self.inside.count c.in_ok-shapes.ensures.shapes c.if-not-takes.false (ap inherited_of c.in-Some.is ∙ sym c.deref.ensures)
      c.self.invariant.shapes c.self.invariant.own_few;
}
