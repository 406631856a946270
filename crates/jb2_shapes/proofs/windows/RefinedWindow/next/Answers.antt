use Rattle.std.proofs.Common.{pos}
use Rattle.jb2_shapes.specs.Shape.{column_of, row_of}
use Rattle.jb2_shapes.proofs.Placing.{more_than_none}
use Rattle.jb2_shapes.proofs.windows.RefinedWindow.next.Goals as goal

pub returns-else-self-eq0 : goal.returns-else-self-eq0
returns-else-self-eq0 c =
    let more = more_than_none c.column.result (column_of c.args.canvas.now) c.column.ensures c.if-self-eq0.false.0 in
    c.right.ensures c.args.matching.now c.args.canvas.now.shape (pos (column_of c.args.canvas.now)) (pos (row_of c.args.canvas.now)) (c.requires.window more) (c.requires.colour more)
