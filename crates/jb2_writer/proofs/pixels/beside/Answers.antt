use Rattle.std.proofs.Common.{◌≡◌, arith, to_z, of_z, w64, pos, ◌+ℤ◌}
use Rattle.std.proofs.lemmas.Int.{ints}
use Rattle.jb2_writer.proofs.Sketching.{at_place}
use Rattle.jb2_writer.proofs.pixels.beside.Goals as goal

pub returns : goal.returns
returns c =
    let x : to_z w64 (of_z w64 c.sum.result) ≡ (pos c.args.column +ℤ c.args.shift.right +ℤ c.args.right) = omega (arith, ints) in
    let y : to_z w64 (of_z w64 c.sum-2.result) ≡ (pos c.args.row +ℤ c.args.shift.up +ℤ c.args.up) = omega (arith, ints) in
    at_place c.args.matched.now _ _ _ _ c.get.result c.get.ensures x y
