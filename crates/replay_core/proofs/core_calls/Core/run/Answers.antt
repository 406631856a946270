use Rattle.std.proofs.Common.{Some, None, refl, ◌∙◌, subst}
use Rattle.replay_core.specs.CoreSteps.{GoesOn}
use Rattle.replay_core.proofs.Joining.{goes_none, goes_both, same_both}
use Rattle.replay_core.proofs.core_calls.Core.run.Goals as goal

pub steps-init : goal.steps-init
steps-init g c = record {
  goes = goes_none c.args.self.now c.args.decoder.now (g.M.Meter.count c.args.meter.now);
  same = record { table = refl; names = refl; pages = refl };
  mark = refl;
}

pub steps-preserved : goal.steps-preserved
steps-preserved g c =
    let went : GoesOn c.steps.self c.go_on.new.self c.steps.decoder c.go_on.new.decoder None (g.M.Meter.count c.steps.meter)
    (g.M.Meter.count c.go_on.new.meter) = subst (λ answer. GoesOn c.steps.self c.go_on.new.self c.steps.decoder c.go_on.new.decoder answer
    (g.M.Meter.count c.steps.meter) (g.M.Meter.count c.go_on.new.meter)) c.in_default.is c.go_on.ensures.goes in
    record {
      goes = goes_both None c.args.self.now c.steps.self c.go_on.new.self c.args.decoder.now c.steps.decoder c.go_on.new.decoder
          (g.M.Meter.count c.args.meter.now) (g.M.Meter.count c.steps.meter) (g.M.Meter.count c.go_on.new.meter)
          c.steps.invariant.goes went c.steps.invariant.same;
      same = same_both c.args.self.now c.steps.self c.go_on.new.self c.steps.invariant.same c.go_on.ensures.same;
      mark = c.go_on.ensures.mark ∙ c.steps.invariant.mark;
    }

pub returns-in-Some-clause-goes : goal.returns-in-Some-clause-goes
returns-in-Some-clause-goes g c =
    let went : GoesOn c.steps.self c.go_on.new.self c.steps.decoder c.go_on.new.decoder (Some c.in-Some.answer) (g.M.Meter.count c.steps.meter)
    (g.M.Meter.count c.go_on.new.meter) = subst (λ answer. GoesOn c.steps.self c.go_on.new.self c.steps.decoder c.go_on.new.decoder answer
    (g.M.Meter.count c.steps.meter) (g.M.Meter.count c.go_on.new.meter)) c.in-Some.is c.go_on.ensures.goes in
    goes_both (Some c.in-Some.answer) c.args.self.now c.steps.self c.go_on.new.self c.args.decoder.now c.steps.decoder c.go_on.new.decoder
    (g.M.Meter.count c.args.meter.now) (g.M.Meter.count c.steps.meter) (g.M.Meter.count c.go_on.new.meter)
    c.steps.invariant.goes went c.steps.invariant.same
