use Rattle.std.proofs.Common.{◌≡◌, length}
use Rattle.include_graph.specs.Included.{after_newlines}
use Rattle.include_graph.proofs.included.after_newlines.Given as goal

-- the newlines that were passed are none of what is answered
abbrev pub invariant-starts : goal.invariant-starts
invariant-starts l = after_newlines l.rest ≡ after_newlines l.bytes

abbrev pub decreases-starts : goal.decreases-starts
decreases-starts l = length l.rest
