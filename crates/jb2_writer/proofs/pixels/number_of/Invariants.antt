use Rattle.std.proofs.Common.{◌≡◌, take}
use Rattle.jb2_shapes.specs.Numbers.{number_of}
use Rattle.jb2_writer.proofs.pixels.number_of.Given as goal

-- the colours before are digits
abbrev pub invariant-loop-colour : goal.invariant-loop-colour
invariant-loop-colour l = number_of (take l.colour-index l.colours) ≡ l.number
