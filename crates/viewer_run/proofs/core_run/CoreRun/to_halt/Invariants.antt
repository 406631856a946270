use Rattle.viewer_run.proofs.Stepping.{StepsOn}
use Rattle.viewer_run.proofs.core_run.CoreRun.to_halt.Given as goal

-- so many notices were drawn
abbrev pub invariant-steps : goal.invariant-steps
invariant-steps g l =
    StepsOn l.page l.fn.self l.self l.fn.lines.items l.lines.items (g.M.Meter.count l.fn.meter) (g.M.Meter.count l.meter) l.counter
