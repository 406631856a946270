use Rattle.std.proofs.Common.{pos, ◌-ℤ◌, ◌+ℤ◌, ap, refl, add-zero, arith}
use Rattle.jb2_shapes.specs.Shape.{column_of, row_of}
use Rattle.bit_plane.proofs.Lemmas.{run_at_place}
use Rattle.jb2_shapes.proofs.Windowing.{window_around}
use Rattle.jb2_shapes.proofs.windows.DirectWindow.around.Goals as goal

pub returns : goal.returns
returns c =
    let shape = c.args.canvas.now.shape in
    let x = column_of c.args.canvas.now in
    let y = row_of c.args.canvas.now in
    window_around shape (pos x) (pos y) c.ahead-far.result c.ahead-near.result c.ahead.result _ c.ahead-far.ensures c.ahead-near.ensures
    (run_at_place shape shape (pos x -ℤ pos 2) (pos y +ℤ pos 0) (pos x -ℤ pos 2) (pos y) 64 c.ahead.result refl refl (ap (λ n. pos n) (add-zero y)) c.ahead.ensures)
    c.three.ensures c.five.ensures c.two.ensures refl refl (omega arith)
