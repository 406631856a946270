use Rattle.std.proofs.Common.{pos, ◌+ℤ◌, ◌-ℤ◌, ap, refl, add-zero, arith}
use Rattle.std.proofs.lemmas.Int.{ints}
use Rattle.jb2_shapes.specs.Shape.{column_of, row_of}
use Rattle.bit_plane.proofs.Lemmas.{run_at_place}
use Rattle.jb2_shapes.proofs.RefinedWindowing.{refined_around}
use Rattle.jb2_shapes.proofs.windows.RefinedWindow.around.Goals as goal

pub returns : goal.returns
returns c =
    let shape = c.args.canvas.now.shape in
    let matched = c.args.matching.now.matched in
    let x = column_of c.args.canvas.now in
    let y = row_of c.args.canvas.now in
    let mx = pos x +ℤ c.args.matching.now.right in
    let my = pos y +ℤ c.args.matching.now.up in
    refined_around c.args.matching.now shape (pos x) (pos y) c.ahead-above.result c.ahead.result c.ahead-over.result c.ahead-beside.result c.ahead-under.result _
    c.ahead-above.ensures
    (run_at_place shape shape (pos x -ℤ pos 1) (pos y +ℤ pos 0) (pos x -ℤ pos 1) (pos y) 64 c.ahead.result refl refl (ap (λ n. pos n) (add-zero y)) c.ahead.ensures)
    (run_at_place matched matched (mx +ℤ pos 0) (my +ℤ pos 1) mx (my +ℤ pos 1) 64 c.ahead-over.result refl (omega (arith, ints)) refl c.ahead-over.ensures)
    (run_at_place matched matched (mx -ℤ pos 1) (my +ℤ pos 0) (mx -ℤ pos 1) my 64 c.ahead-beside.result refl refl (omega (arith, ints)) c.ahead-beside.ensures)
    c.ahead-under.ensures
    c.three.ensures c.is_set.ensures c.is_set-2.ensures c.three-2.ensures c.three-3.ensures refl refl refl refl (omega arith)
