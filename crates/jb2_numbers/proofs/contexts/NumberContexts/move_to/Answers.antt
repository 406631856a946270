use Rattle.std.proofs.Common.{◌≡◌, ◌<◌, List, length, get_or, set, ap, sym, subst, ◌∙◌}
use Rattle.zp_decoder.specs.States.{AreBelow}
use Rattle.jb2_numbers.specs.declared.contexts.Cell.{Cell}
use Rattle.jb2_numbers.specs.Contexts.{store}
use Rattle.jb2_numbers.specs.Kept.{Numbers, IsCell, HaveNames, states_of, start}
use Rattle.jb2_numbers.specs.Steps.{KeepsCells}
use Rattle.jb2_numbers.proofs.Cells.{moved, moved_names, moved_states, moved_below, moved_keeps, cell_read}
use Rattle.jb2_numbers.proofs.contexts.NumberContexts.move_to.Goals as goal

within : (c : goal.After-self-1) → c.args.at < length c.self.inside.cells.items
within c = subst (λ (numbers : Numbers). c.args.at < length numbers.cells) (sym c.self.view_is) c.requires

-- the cell that was written, as lemmas have it
written : (c : goal.After-self-1) → set c.self.inside.cells.items c.args.at
    (moved (get_or c.self.inside.cells.items c.args.at start) c.args.state) ≡ set c.self.inside.cells.items c.args.at
    (moved c.index_mut.result.now c.args.state)
written c = ap (λ (cell : Cell). set c.self.inside.cells.items c.args.at (moved cell c.args.state))
    (sym (cell_read c.self.inside.cells.items c.args.at c.index_mut.result.now (within c) c.index_mut.ensures.value))

pub invariant_of-self : goal.invariant_of-self
invariant_of-self c = subst HaveNames (written c) (moved_names c.self.inside.cells.items c.args.at c.args.state (within c) c.self.invariant)

pub returns-clause-cells : goal.returns-clause-cells
returns-clause-cells c =
    subst (λ (old : Numbers). KeepsCells old (record { cells = set c.self.inside.cells.items c.args.at (moved c.index_mut.result.now c.args.state) }))
    c.self.view_is
    (subst (λ (cells : List Cell). KeepsCells (record { cells = c.self.inside.cells.items }) (record { cells = cells })) (written c)
    (moved_keeps c.self.inside.cells.items c.args.at c.args.state (within c)))

pub returns-clause-stored : goal.returns-clause-stored
returns-clause-stored c of cell =
    let was = subst (λ (numbers : Numbers). IsCell numbers of c.args.at) (sym c.self.view_is) cell in
    ap (λ (cells : List Cell). states_of (record { cells = cells })) (sym (written c))
    ∙ (moved_states c.self.inside.cells.items c.args.at c.args.state (within c) c.self.invariant of was.leads
    ∙ ap (λ (numbers : Numbers). store (states_of numbers) of c.args.state) c.self.view_is)

pub returns-clause-below : goal.returns-clause-below
returns-clause-below c of count cell low below =
    let was = subst (λ (numbers : Numbers). IsCell numbers of c.args.at) (sym c.self.view_is) cell in
    subst (λ (cells : List Cell). AreBelow count (states_of (record { cells = cells }))) (written c)
    (moved_below c.self.inside.cells.items c.args.at c.args.state (within c) c.self.invariant of count was.leads low
    (subst (λ (numbers : Numbers). AreBelow count (states_of numbers)) (sym c.self.view_is) below))
