use Rattle.std.proofs.Common.{◌≡◌, ap, ◌∙◌, arith, to_z, of_z, w64, pos, ◌+ℤ◌}
use Rattle.std.proofs.lemmas.Int.{ints}
use Rattle.jb2_shapes.specs.Refined.{Matching}
use Rattle.jb2_shapes.specs.Shape.{column_of, row_of}
use Rattle.bit_plane.proofs.Lemmas.{run_at_place}
use Rattle.jb2_shapes.proofs.matching.Matching.ahead.Goals as goal

pub returns : goal.returns
returns c =
    let matched = ap (λ (m : Matching). m.matched) c.self.view_is in
    let right = ap (λ (m : Matching). m.right) c.self.view_is in
    let up = ap (λ (m : Matching). m.up) c.self.view_is in
    let x : to_z w64 (of_z w64 c.sum-x.result) ≡ (pos (column_of c.args.canvas.now) +ℤ c.args.self.now.right +ℤ c.args.right) = omega (arith, ints, right) in
    let y : to_z w64 (of_z w64 c.sum-y.result) ≡ (pos (row_of c.args.canvas.now) +ℤ c.args.self.now.up +ℤ c.args.up) = omega (arith, ints, up) in
    run_at_place _ c.args.self.now.matched _ _ _ _ 64 c.row_from.result (c.deref.ensures ∙ matched) x y c.row_from.ensures
