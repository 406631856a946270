use Rattle.std.proofs.Common.{◌≡◌, ◌≤◌, ◌+◌, ◌-◌, ℕ, suc, length, sym, subst, ◌∙◌, arith}
use Rattle.jb2_numbers.specs.Number.{steps}
use Rattle.jb2_numbers.specs.Reader.{Stands}
use Rattle.jb2_numbers.proofs.Stepping.{ends_earlier}
use Rattle.jb2_numbers.proofs.reader.NumberReader.read_on.Goals as goal

pub decisions-preserved : goal.decisions-preserved
decisions-preserved g c =
    let first : ℕ = length c.args.self.now.decisions in
    let now : ℕ = length c.decisions.self.decisions in
    let next : ℕ = length c.step.new.self.decisions in
    let one : next ≡ now + 1 = c.in-Ok.ensures.next.one in
    let more : first ≤ now = c.decisions.invariant.more in
    let later : next - first ≡ suc (now - first) = omega arith in
    record {
      stands = λ wanted chunk before reading start.
          subst (λ (k : ℕ). Stands wanted chunk before (steps k wanted chunk reading) c.step.new.self c.step.new.contexts c.step.new.zp
          (g.M.Meter.count c.step.new.meter)) (sym later)
          (c.in-Ok.ensures.goes wanted chunk before (steps (now - first) wanted chunk reading)
          (c.decisions.invariant.stands wanted chunk before reading start));
      more = omega arith;
      unknown = c.in-Ok.ensures.next.unknown;
      cell = c.in-Ok.ensures.next.cell;
      underway = λ wanted start. c.step.ensures.underway wanted (c.decisions.invariant.underway wanted start);
      below = c.step.ensures.below;
      table = c.step.ensures.table ∙ c.decisions.invariant.table;
      ended = c.step.ensures.ended ∙ c.decisions.invariant.ended;
    }

pub returns-in-Err-clause-ends : goal.returns-in-Err-clause-ends
returns-in-Err-clause-ends g c wanted chunk before reading start =
    let first : ℕ = length c.args.self.now.decisions in
    let now : ℕ = length c.decisions.self.decisions in
    let more : first ≤ now = c.decisions.invariant.more in
    let later : now ≡ (now - first) + first = omega arith in
    ends_earlier wanted chunk before reading c.in-Err.answer c.args.self.now c.decisions.self c.step.new.self c.step.new.contexts c.step.new.zp
    (g.M.Meter.count c.step.new.meter) (now - first) later
    (c.in-Err.ensures.ends wanted chunk before (steps (now - first) wanted chunk reading) (c.decisions.invariant.stands wanted chunk before reading start))
