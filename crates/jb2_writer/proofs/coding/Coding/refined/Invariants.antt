use Rattle.bit_plane.specs.Ink.{ink_box_of}
use Rattle.jb2_shapes.specs.Refined.{refined_context, column_shift, row_shift}
use Rattle.jb2_writer.specs.Pixels.{HasDrawn}
use Rattle.jb2_writer.proofs.coding.Coding.refined.Given as goal

-- the pixels before are there
abbrev pub invariant-loop-number : goal.invariant-loop-number
invariant-loop-number l =
    HasDrawn (refined_context l.matched (column_shift l.shape (ink_box_of l.matched)) (row_shift l.shape (ink_box_of l.matched))) l.shape l.initial.self l.self
    (record { shape = l.sketch; number = l.number })
