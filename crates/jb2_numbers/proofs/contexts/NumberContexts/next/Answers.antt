use Rattle.std.proofs.Common.{subst, sym}
use Rattle.jb2_numbers.specs.Contexts.{further}
use Rattle.jb2_numbers.specs.Kept.{Numbers, IsCell}
use Rattle.jb2_numbers.proofs.Cells.{linked_cell}
use Rattle.jb2_numbers.proofs.contexts.NumberContexts.next.Goals as goal

pub returns-clause-cell : goal.returns-clause-cell
returns-clause-cell c before of =
    subst (λ (numbers : Numbers). IsCell numbers (further before c.args.decision) c.link-link.result) c.self.view_is
    (linked_cell c.self.inside.cells.items c.self.invariant before c.args.at c.args.decision c.index.result.now c.link-link.result
    (subst (λ (numbers : Numbers). IsCell numbers before c.args.at) (sym c.self.view_is) of) c.index.ensures c.link-link.ensures c.if-link-eq0.false)
