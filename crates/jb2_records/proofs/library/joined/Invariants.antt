use Rattle.std.proofs.Common.{◌≡◌, take}
use Rattle.std.specs.Prelude.{All}
use Rattle.jb2_records.specs.Sides.{IsShape}
use Rattle.jb2_records.proofs.library.joined.Given as goal

abbrev pub invariant-loop-number : goal.invariant-loop-number
invariant-loop-number l = record {
  same : l.shapes.items ≡ take l.number l.dictionary;
  sides : All IsShape l.shapes.items;
}
