use Rattle.replay_core.proofs.Giving.{unfound, stops_there, given_so}
use Rattle.replay_core.proofs.core_calls.Core.give_file.Goals as goal

pub returns-in_err-gift-clause-goes : goal.returns-in_err-gift-clause-goes
returns-in_err-gift-clause-goes g c =
    unfound c.args.file c.args.self.now c.result_of.new.self c.args.decoder.now c.from_residual.result c.in_err-gift.field-0.0
    (g.M.Meter.count c.args.meter.now) (g.M.Meter.count c.result_of.new.meter) c.in_err-gift.ensures.finds
    (stops_there c.from_residual.result c.from_residual.ensures.0)

pub returns-clause-goes : goal.returns-clause-goes
returns-clause-goes g c =
    given_so c.args.file c.args.self.now c.result_of.new.self c.args.decoder.now c.give_file.new.self c.in_ok-gift.gift c.give_file.result
    (g.M.Meter.count c.args.meter.now) (g.M.Meter.count c.result_of.new.meter)
    c.in_ok-gift.ensures.finds
    c.give_file.ensures.fed c.give_file.ensures.stays
