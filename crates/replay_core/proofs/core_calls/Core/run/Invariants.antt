use Rattle.std.proofs.Common.{◌≡◌, None}
use Rattle.replay_core.specs.CoreSteps.{GoesOn, SamePages}
use Rattle.replay_core.proofs.core_calls.Core.run.Given as goal

abbrev pub invariant-steps : goal.invariant-steps
invariant-steps g l = record {
  goes : GoesOn l.fn.self l.self l.fn.decoder l.decoder None (g.M.Meter.count l.initial.meter) (g.M.Meter.count l.meter);
  same : SamePages l.fn.self l.self;
  mark : l.decoder.mark ≡ l.fn.decoder.mark;
}

abbrev pub decreases-steps : goal.decreases-steps
decreases-steps g l = l.decoder.to_ask
