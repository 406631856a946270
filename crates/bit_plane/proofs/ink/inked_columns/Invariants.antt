use Rattle.bit_plane.specs.Columns.{IsInk}
use Rattle.bit_plane.proofs.ink.inked_columns.Given as goal

abbrev pub invariant-loop-y : goal.invariant-loop-y
invariant-loop-y l = IsInk l.words l.width l.x l.count l.y l.ink
