use Rattle.std.proofs.Common.{◌<◌, ℕ, length, sym, ap, subst, ◌∙◌}
use Rattle.jb2_numbers.specs.Contexts.{name}
use Rattle.jb2_numbers.specs.Kept.{phase_in}
use Rattle.jb2_numbers.specs.Phases.{implied}
use Rattle.jb2_numbers.specs.Reader.{Reader}
use Rattle.jb2_numbers.proofs.Sound.{few_reader}
use Rattle.jb2_numbers.proofs.Stepping.{state_of_cell, decide_implied, decide_goes, decide_ends}
use Rattle.jb2_numbers.proofs.reader.NumberReader.decide.Goals as goal

pub decode-requires-clause-below : goal.decode-requires-clause-below
decode-requires-clause-below g c =
    subst (λ (s : ℕ). s < length c.args.zp.now.table) (sym (state_of_cell c.args.contexts.now
    (name c.args.self.now.root c.args.self.now.decisions) c.args.at c.requires.cell))
    (c.requires.below (name c.args.self.now.root c.args.self.now.decisions))

pub returns-in-Some-clause-goes : goal.returns-in-Some-clause-goes
returns-in-Some-clause-goes g c =
    decide_implied c.args.self.now c.args.contexts.now c.args.zp.now (g.M.Meter.count c.args.meter.now) c.in-Some.decision
    (ap (λ (r : Reader). implied r.phase) (sym c.self.view_is) ∙ sym c.in-Some.ensures)

pub returns-in-Some-clause-few : goal.returns-in-Some-clause-few
returns-in-Some-clause-few g c = few_reader c.self.inside.path (phase_in c.self.inside.phase) c.args.self.now.decisions
    (ap (λ (r : Reader). r.decisions) c.self.view_is) c.self.invariant

pub returns-in-None-clause-goes : goal.returns-in-None-clause-goes
returns-in-None-clause-goes g c =
    decide_goes c.args.self.now c.args.at c.args.contexts.now c.decode.new.self c.args.zp.now c.decode.new.zp (g.M.Meter.count c.args.meter.now)
    (g.M.Meter.count c.decode.new.meter) c.decode.result
    c.requires.cell c.requires.unknown (ap (λ (r : Reader). implied r.phase) (sym c.self.view_is) ∙ sym c.in-None.ensures)
    c.decode.ensures.bit c.decode.ensures.table c.decode.ensures.ended c.decode.ensures.ticks

pub returns-in-None-clause-few : goal.returns-in-None-clause-few
returns-in-None-clause-few g c = few_reader c.self.inside.path (phase_in c.self.inside.phase) c.args.self.now.decisions
    (ap (λ (r : Reader). r.decisions) c.self.view_is) c.self.invariant

pub returns-in-None-clause-ends : goal.returns-in-None-clause-ends
returns-in-None-clause-ends g c =
    decide_ends c.args.self.now c.args.at c.args.contexts.now c.decode.new.self c.args.zp.now c.decode.new.zp (g.M.Meter.count c.args.meter.now)
    (g.M.Meter.count c.decode.new.meter) c.decode.result
    c.requires.cell c.requires.unknown (ap (λ (r : Reader). implied r.phase) (sym c.self.view_is) ∙ sym c.in-None.ensures) c.decode.ensures.stop

pub returns-in-None-clause-below : goal.returns-in-None-clause-below
returns-in-None-clause-below g c = c.decode.ensures.below (name c.args.self.now.root c.args.self.now.decisions) c.requires.cell c.requires.below
