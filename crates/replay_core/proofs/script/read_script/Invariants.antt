use Rattle.std.proofs.Common.{◌≡◌, ◌≤◌, ◌+◌, [], length}
use Rattle.replay_core.specs.Script.{lines_of, lines_after}
use Rattle.replay_core.proofs.script.read_script.Given as goal

-- what the lines that are left come to is what all do
abbrev pub invariant-loop-line : goal.invariant-loop-line
invariant-loop-line l = record {
  left : lines_after l.names l.pages l.script.items (lines_of l.rest) ≡ lines_after l.names l.pages [] (lines_of l.bytes);
  short : length l.script.items + length l.rest ≤ length l.bytes;
}

abbrev pub decreases-loop-line : goal.decreases-loop-line
decreases-loop-line l = length l.rest
