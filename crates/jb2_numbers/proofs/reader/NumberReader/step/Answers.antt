use Rattle.std.proofs.Common.{ℕ, length, refl, ap}
use Rattle.std.proofs.lemmas.Result.{err_from_is_err_and}
use Rattle.zp_decoder.specs.Chunk.{Chunk}
use Rattle.jb2_numbers.specs.Contexts.{name}
use Rattle.jb2_numbers.specs.Kept.{states_of}
use Rattle.jb2_numbers.specs.Number.{Wanted, Reading, step}
use Rattle.jb2_numbers.specs.Reader.{Stands}
use Rattle.jb2_numbers.specs.Steps.{EndsBy}
use Rattle.jb2_numbers.specs.declared.reader.NumberStep.{NumberStep}
use Rattle.jb2_numbers.proofs.Stepping.{Moves, stands_moved, stands_still, none_ends, step_ends, step_next, on_ok, exit_by, underway_on}
use Rattle.jb2_numbers.proofs.reader.NumberReader.step.Goals as goal

pub returns-in_err-decision-clause-ends : goal.returns-in_err-decision-clause-ends
returns-in_err-decision-clause-ends g c =
    exit_by c.from_residual.result
    (λ (end : NumberStep). (wanted : Wanted) (chunk : Chunk) (before : ℕ) (reading : Reading) →
    Stands wanted chunk before reading c.args.self.now c.args.contexts.now c.args.zp.now (g.M.Meter.count c.args.meter.now) →
    EndsBy wanted chunk before reading end c.args.self.now c.args.self.now c.decide.new.contexts c.decide.new.zp (g.M.Meter.count c.decide.new.meter))
    c.in_err-decision.field-0.0 (err_from_is_err_and c.from_residual.result c.from_residual.ensures.1)
    (λ wanted chunk before reading stands.
    none_ends wanted chunk before reading c.args.self.now c.decide.new.contexts c.decide.new.zp
    (g.M.Meter.count c.decide.new.meter) c.in_err-decision.field-0.0 c.decide.ensures.few
    (stands_still wanted chunk before reading c.args.self.now c.args.self.now c.args.contexts.now c.decide.new.contexts c.args.zp.now c.decide.new.zp
    (g.M.Meter.count c.args.meter.now) (g.M.Meter.count c.decide.new.meter) stands refl
    (ap states_of c.in_err-decision.ensures.still.0) c.in_err-decision.ensures.still.1 (ap g.M.Meter.count c.in_err-decision.ensures.still.2))
    (c.in_err-decision.ensures.ends wanted chunk before reading stands))

pub cell_after-requires : goal.cell_after-requires
cell_after-requires g c = (c.decide.ensures.cells (name c.args.self.now.root c.args.self.now.decisions) c.args.at c.requires.cell).within

pub returns-clause-goes : goal.returns-clause-goes
returns-clause-goes g c =
    on_ok c.cell_after.result (λ wanted chunk before reading stands.
    stands_moved wanted chunk before (step wanted chunk reading) c.take.new.self c.decide.new.contexts c.cell_after.new.contexts c.decide.new.zp
    (g.M.Meter.count c.decide.new.meter) c.cell_after.ensures.same
    (c.in_ok-decision.ensures.goes c.take.new.self wanted chunk before reading c.take.ensures.takes stands))

pub returns-clause-ends : goal.returns-clause-ends
returns-clause-ends g c =
    let moves : Moves c.args.self.now c.args.contexts.now c.args.zp.now
    (g.M.Meter.count c.args.meter.now) c.take.new.self c.cell_after.new.contexts c.decide.new.zp (g.M.Meter.count c.decide.new.meter) =
    λ wanted chunk before reading stands.
    stands_moved wanted chunk before (step wanted chunk reading) c.take.new.self c.decide.new.contexts c.cell_after.new.contexts c.decide.new.zp
    (g.M.Meter.count c.decide.new.meter) c.cell_after.ensures.same
    (c.in_ok-decision.ensures.goes c.take.new.self wanted chunk before reading c.take.ensures.takes stands) in
    step_ends c.cell_after.result c.args.self.now c.take.new.self c.args.contexts.now c.cell_after.new.contexts c.args.zp.now c.decide.new.zp
    (g.M.Meter.count c.args.meter.now) (g.M.Meter.count c.decide.new.meter)
    c.cell_after.ensures.end (ap length c.take.ensures.takes.decisions) c.take.ensures.few moves

pub returns-clause-next : goal.returns-clause-next
returns-clause-next g c =
    step_next c.cell_after.result c.args.self.now c.take.new.self c.in_ok-decision.decision c.args.at c.decide.new.contexts c.cell_after.new.contexts c.cell_after.ensures.cell c.cell_after.ensures.unknown
    (c.decide.ensures.cells (name c.args.self.now.root c.args.self.now.decisions) c.args.at c.requires.cell) c.take.ensures.takes c.take.ensures.few

pub returns-clause-underway : goal.returns-clause-underway
returns-clause-underway g c wanted underway =
    underway_on wanted c.args.self.now c.take.new.self c.in_ok-decision.decision c.take.ensures.takes c.in_ok-decision.ensures.allowed underway
