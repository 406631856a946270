use Rattle.std.proofs.Common.{◌≡◌, length, reverse}
use Rattle.include_graph.specs.Included.{after_newlines}
use Rattle.include_graph.proofs.included.before_newlines.Given as goal

-- the newlines that were passed are none of what is answered
abbrev pub invariant-ends : goal.invariant-ends
invariant-ends l = after_newlines (reverse l.rest) ≡ after_newlines (reverse l.bytes)

abbrev pub decreases-ends : goal.decreases-ends
decreases-ends l = length l.rest
