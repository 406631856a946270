use Rattle.jb2_shapes.specs.Shape.{direct_context}
use Rattle.jb2_writer.specs.Pixels.{HasDrawn}
use Rattle.jb2_writer.proofs.coding.Coding.direct.Given as goal

-- the pixels before are there
abbrev pub invariant-loop-number : goal.invariant-loop-number
invariant-loop-number l = HasDrawn direct_context l.shape l.initial.self l.self (record { shape = l.sketch; number = l.number })
