use Rattle.std.proofs.Common.{◌≡◌, arith, to_z, of_z, w64, pos, ◌+ℤ◌}
use Rattle.std.proofs.lemmas.Int.{ints}
use Rattle.jb2_writer.proofs.Sketching.{at_place}
use Rattle.jb2_writer.proofs.pixels.near.Goals as goal

pub returns : goal.returns
returns c =
    let x : to_z w64 (of_z w64 c.moved.result) ≡ (pos c.args.column +ℤ c.args.right) = omega (arith, ints) in
    let y : to_z w64 (of_z w64 c.moved-2.result) ≡ (pos c.args.row +ℤ c.args.up) = omega (arith, ints) in
    at_place c.args.plane.now _ _ _ _ c.get.result c.get.ensures x y
