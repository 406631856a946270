use Rattle.std.proofs.Common.{◌<◌, ap, sym, subst, arith}
use Rattle.std.specs.Prelude.{IsTrue}
use Rattle.jb2_numbers.specs.Kept.{phase_in}
use Rattle.jb2_numbers.specs.Phases.{allows}
use Rattle.jb2_numbers.specs.Reader.{Reader}
use Rattle.jb2_numbers.proofs.Sound.{few_taken, fewer_reader}
use Rattle.jb2_numbers.proofs.reader.NumberReader.take.Goals as goal

pub with_decision-self-inside-requires-clause-few : goal.with_decision-self-inside-requires-clause-few
with_decision-self-inside-requires-clause-few c =
    let few : c.self.inside.path.count < 36 =
    few_taken c.self.inside.path (phase_in c.self.inside.phase) c.args.decision c.self.invariant
    (subst (λ (r : Reader). IsTrue (allows r.phase c.args.decision)) (sym c.self.view_is) c.requires) in
    omega (arith, few)

pub returns-clause-few : goal.returns-clause-few
returns-clause-few c =
    fewer_reader c.self.inside.path (phase_in c.self.inside.phase) c.args.decision c.args.self.now.decisions
    (ap (λ (r : Reader). r.decisions) c.self.view_is) c.self.invariant
    (subst (λ (r : Reader). IsTrue (allows r.phase c.args.decision)) (sym c.self.view_is) c.requires)
