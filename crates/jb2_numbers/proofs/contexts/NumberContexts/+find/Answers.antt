use Rattle.jb2_numbers.specs.Kept.{decisions_in}
use Rattle.jb2_numbers.proofs.Growing.{cell_on}
use Rattle.jb2_numbers.proofs.contexts.NumberContexts.+find.Goals as goal

pub returns-in_ok-at-in-Some-clause-cell : goal.returns-in_ok-at-in-Some-clause-cell
returns-in_ok-at-in-Some-clause-cell t c =
    cell_on c.next.result c.find.new.self c.next.new.self c.args.root (decisions_in c.in-Some.before)
    (decisions_in c.args.path) c.in-Some.decision c.in_ok-at-in-Some.at
    c.in-Some.ensures.0 c.in_ok-at-in-Some.ensures.cell c.next.ensures.cell
