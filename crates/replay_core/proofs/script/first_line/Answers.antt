use Rattle.std.proofs.Common.{◌≡◌, ◌<◌, false, length, sym, ◌∙◌, arith}
use Rattle.std.specs.Prelude.{◌==◌}
use Rattle.replay_core.proofs.Cutting.{last_line, line_before}
use Rattle.replay_core.proofs.script.first_line.Goals as goal

pub returns-in-Some-clause-lines : goal.returns-in-Some-clause-lines
returns-in-Some-clause-lines c =
    line_before c.args.text.now c.cut.result.0.now c.in-Some.others.now (rw c.in-Some.is at c.cut.ensures.parts)

pub returns-in-None-clause-lines : goal.returns-in-None-clause-lines
returns-in-None-clause-lines c =
    let test : (length c.args.text.now == 0) ≡ false = sym c.is_empty.ensures ∙ c.if-is_empty.false in
    let some : 0 < length c.args.text.now = grind (arith, test) in
    last_line c.args.text.now c.cut.result.0.now some (rw c.in-None.is at c.cut.ensures.parts)
