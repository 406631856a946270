use Rattle.std.proofs.Common.{pos}
use Rattle.jb2_shapes.specs.Numbers.{states_of}
use Rattle.jb2_shapes.specs.Steps.{Keeps}
use Rattle.jb2_shapes.specs.Windows.{IsRefinedWindow}
use Rattle.jb2_shapes.specs.Refined.{matching_context}
use Rattle.jb2_shapes.specs.Shape.{IsUnread, column_of, row_of, left_of}
use Rattle.jb2_shapes.proofs.refined.read_pixels.Given as goal

abbrev pub invariant-pixels : goal.invariant-pixels
invariant-pixels g l =
    IsUnread l.canvas × IsRefinedWindow l.fn.matching l.canvas.shape (pos (column_of l.canvas)) (pos (row_of l.canvas)) l.window
    × Keeps (matching_context l.fn.matching) l.fn.zp l.fn.canvas (states_of l.fn.contexts) (g.M.Meter.count l.fn.meter) l.zp l.canvas (states_of l.contexts) (g.M.Meter.count l.meter)

abbrev pub decreases-pixels : goal.decreases-pixels
decreases-pixels g l = left_of l.canvas
