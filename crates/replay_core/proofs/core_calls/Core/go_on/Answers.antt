use Rattle.std.proofs.Common.{sym, subst}
use Rattle.replay_core.specs.CoreSteps.{GoesWith}
use Rattle.replay_core.proofs.Reading.{Laws, Stepped}
use Rattle.replay_core.proofs.Going.{goes_drew, goes_bytes, goes_finished, goes_refused, goes_failed, goes_outline, goes_file}
use Rattle.replay_core.proofs.core_calls.Core.go_on.Goals as goal

pub returns-in-Drew-clause-goes : goal.returns-in-Drew-clause-goes
returns-in-Drew-clause-goes g c =
    let laws : Laws = record {
      told = c.growth.ensures.told;
      finished = c.growth.ensures.finished;
      refused = c.growth.ensures.refused;
      unmet = c.growth.ensures.unmet;
      both = c.given_grows.ensures.both;
      reached = c.needs.ensures.reached;
      pages = c.results_are_the_librarys.ensures.pages;
    } in
    let stepped : Stepped c.args.decoder.now c.step.new.self c.step.result (g.M.Meter.count c.args.meter.now) (g.M.Meter.count c.step.new.meter) = record {
      told = c.step.ensures.answer;
      decisions = c.step.ensures.decisions;
      at_most = c.step.ensures.at_most;
      shows = c.step.ensures.shows;
      fed = c.step.ensures.fed;
      rise = c.step.ensures.rise;
      drawn = c.step.ensures.drawn;
      going = c.step.ensures.going;
    } in
    goes_drew laws c.args.self.now c.args.decoder.now c.step.new.self c.step.result (g.M.Meter.count c.args.meter.now)
    (g.M.Meter.count c.step.new.meter) stepped c.in-Drew.notice c.in-Drew.is

pub returns-in-NeedBytes-clause-goes : goal.returns-in-NeedBytes-clause-goes
returns-in-NeedBytes-clause-goes g c =
    let laws : Laws = record {
      told = c.growth.ensures.told;
      finished = c.growth.ensures.finished;
      refused = c.growth.ensures.refused;
      unmet = c.growth.ensures.unmet;
      both = c.given_grows.ensures.both;
      reached = c.needs.ensures.reached;
      pages = c.results_are_the_librarys.ensures.pages;
    } in
    let stepped : Stepped c.args.decoder.now c.step.new.self c.step.result (g.M.Meter.count c.args.meter.now) (g.M.Meter.count c.step.new.meter) = record {
      told = c.step.ensures.answer;
      decisions = c.step.ensures.decisions;
      at_most = c.step.ensures.at_most;
      shows = c.step.ensures.shows;
      fed = c.step.ensures.fed;
      rise = c.step.ensures.rise;
      drawn = c.step.ensures.drawn;
      going = c.step.ensures.going;
    } in
    goes_bytes laws c.args.self.now c.args.decoder.now c.step.new.self c.step.result (g.M.Meter.count c.args.meter.now)
    (g.M.Meter.count c.step.new.meter) stepped c.in-NeedBytes.is

pub returns-in-Finished-clause-goes : goal.returns-in-Finished-clause-goes
returns-in-Finished-clause-goes g c =
    let laws : Laws = record {
      told = c.growth.ensures.told;
      finished = c.growth.ensures.finished;
      refused = c.growth.ensures.refused;
      unmet = c.growth.ensures.unmet;
      both = c.given_grows.ensures.both;
      reached = c.needs.ensures.reached;
      pages = c.results_are_the_librarys.ensures.pages;
    } in
    let stepped : Stepped c.args.decoder.now c.step.new.self c.step.result (g.M.Meter.count c.args.meter.now) (g.M.Meter.count c.step.new.meter) = record {
      told = c.step.ensures.answer;
      decisions = c.step.ensures.decisions;
      at_most = c.step.ensures.at_most;
      shows = c.step.ensures.shows;
      fed = c.step.ensures.fed;
      rise = c.step.ensures.rise;
      drawn = c.step.ensures.drawn;
      going = c.step.ensures.going;
    } in
    goes_finished laws c.args.self.now c.args.decoder.now c.step.new.self c.step.result (g.M.Meter.count c.args.meter.now)
    (g.M.Meter.count c.step.new.meter) stepped c.in-Finished.is

pub returns-in-Refused-clause-goes : goal.returns-in-Refused-clause-goes
returns-in-Refused-clause-goes g c =
    let laws : Laws = record {
      told = c.growth.ensures.told;
      finished = c.growth.ensures.finished;
      refused = c.growth.ensures.refused;
      unmet = c.growth.ensures.unmet;
      both = c.given_grows.ensures.both;
      reached = c.needs.ensures.reached;
      pages = c.results_are_the_librarys.ensures.pages;
    } in
    let stepped : Stepped c.args.decoder.now c.step.new.self c.step.result (g.M.Meter.count c.args.meter.now) (g.M.Meter.count c.step.new.meter) = record {
      told = c.step.ensures.answer;
      decisions = c.step.ensures.decisions;
      at_most = c.step.ensures.at_most;
      shows = c.step.ensures.shows;
      fed = c.step.ensures.fed;
      rise = c.step.ensures.rise;
      drawn = c.step.ensures.drawn;
      going = c.step.ensures.going;
    } in
    goes_refused laws c.args.self.now c.args.decoder.now c.step.new.self c.step.result (g.M.Meter.count c.args.meter.now)
    (g.M.Meter.count c.step.new.meter) stepped c.in-Refused.fault c.in-Refused.is

pub returns-in-OutOfMemory-clause-goes : goal.returns-in-OutOfMemory-clause-goes
returns-in-OutOfMemory-clause-goes g c =
    let laws : Laws = record {
      told = c.growth.ensures.told;
      finished = c.growth.ensures.finished;
      refused = c.growth.ensures.refused;
      unmet = c.growth.ensures.unmet;
      both = c.given_grows.ensures.both;
      reached = c.needs.ensures.reached;
      pages = c.results_are_the_librarys.ensures.pages;
    } in
    let stepped : Stepped c.args.decoder.now c.step.new.self c.step.result (g.M.Meter.count c.args.meter.now) (g.M.Meter.count c.step.new.meter) = record {
      told = c.step.ensures.answer;
      decisions = c.step.ensures.decisions;
      at_most = c.step.ensures.at_most;
      shows = c.step.ensures.shows;
      fed = c.step.ensures.fed;
      rise = c.step.ensures.rise;
      drawn = c.step.ensures.drawn;
      going = c.step.ensures.going;
    } in
    goes_failed laws c.args.self.now c.args.decoder.now c.step.new.self c.step.result (g.M.Meter.count c.args.meter.now)
    (g.M.Meter.count c.step.new.meter) stepped

pub returns-in-NeedOutline-clause-goes : goal.returns-in-NeedOutline-clause-goes
returns-in-NeedOutline-clause-goes g c =
    let laws : Laws = record {
      told = c.growth.ensures.told;
      finished = c.growth.ensures.finished;
      refused = c.growth.ensures.refused;
      unmet = c.growth.ensures.unmet;
      both = c.given_grows.ensures.both;
      reached = c.needs.ensures.reached;
      pages = c.results_are_the_librarys.ensures.pages;
    } in
    let stepped : Stepped c.args.decoder.now c.step.new.self c.step.result (g.M.Meter.count c.args.meter.now) (g.M.Meter.count c.step.new.meter) = record {
      told = c.step.ensures.answer;
      decisions = c.step.ensures.decisions;
      at_most = c.step.ensures.at_most;
      shows = c.step.ensures.shows;
      fed = c.step.ensures.fed;
      rise = c.step.ensures.rise;
      drawn = c.step.ensures.drawn;
      going = c.step.ensures.going;
    } in
    goes_outline laws c.readers_report.ensures c.args.self.now c.args.decoder.now c.step.new.self c.step.result (g.M.Meter.count c.args.meter.now)
    (g.M.Meter.count c.step.new.meter) stepped c.in-NeedOutline.file c.give_outline.ensures.files c.in-NeedOutline.is c.give_outline.new.decoder
    c.give_outline.result c.give_outline.ensures.outline c.give_outline.ensures.stays

pub returns-in-NeedFile-clause-goes : goal.returns-in-NeedFile-clause-goes
returns-in-NeedFile-clause-goes g c =
    let laws : Laws = record {
      told = c.growth.ensures.told;
      finished = c.growth.ensures.finished;
      refused = c.growth.ensures.refused;
      unmet = c.growth.ensures.unmet;
      both = c.given_grows.ensures.both;
      reached = c.needs.ensures.reached;
      pages = c.results_are_the_librarys.ensures.pages;
    } in
    let stepped : Stepped c.args.decoder.now c.step.new.self c.step.result (g.M.Meter.count c.args.meter.now) (g.M.Meter.count c.step.new.meter) = record {
      told = c.step.ensures.answer;
      decisions = c.step.ensures.decisions;
      at_most = c.step.ensures.at_most;
      shows = c.step.ensures.shows;
      fed = c.step.ensures.fed;
      rise = c.step.ensures.rise;
      drawn = c.step.ensures.drawn;
      going = c.step.ensures.going;
    } in
    goes_file laws c.readers_report.ensures c.args.self.now c.args.decoder.now c.step.new.self c.step.result (g.M.Meter.count c.args.meter.now)
    (g.M.Meter.count c.step.new.meter) stepped c.in-NeedFile.file c.in-NeedFile.is c.give_file.new.self c.give_file.new.decoder
    c.stop_at.result (g.M.Meter.count c.give_file.new.meter)
    (subst (λ told. GoesWith c.in-NeedFile.file c.args.self.now c.give_file.new.self c.step.new.self c.give_file.new.decoder told
    (g.M.Meter.count c.step.new.meter) (g.M.Meter.count c.give_file.new.meter)) (sym c.stop_at.ensures) c.give_file.ensures.goes)
