use Rattle.std.proofs.Common.{[], map, length}
use Rattle.include_graph.specs.Verdicts.{graph_in, outline_in, visit}
use Rattle.include_graph.specs.Steps.{StepGives, work_now}
use Rattle.include_graph.proofs.walk.verdict.Given as goal

-- what was found so far, and what is left, is the whole walk
abbrev pub invariant-steps : goal.invariant-steps
invariant-steps l = StepGives (graph_in l.names l.outlines) (visit (graph_in l.names l.outlines) (length l.names) [] l.file []) l.step l.walk

abbrev pub decreases-steps : goal.decreases-steps
decreases-steps l = work_now (graph_in l.names l.outlines) (map outline_in l.outlines) l.step l.walk
