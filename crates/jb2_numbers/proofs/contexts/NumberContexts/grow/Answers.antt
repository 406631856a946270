use Rattle.std.proofs.Common.{◌≡◌, ◌<◌, ℕ, ◌++◌, ◌∷◌, [], length, get_or, set, ap, sym, subst, ◌∙◌}
use Rattle.jb2_numbers.specs.Contexts.{further}
use Rattle.jb2_numbers.specs.Kept.{Numbers, IsCell, states_of, link, start}
use Rattle.jb2_numbers.proofs.Growing.{Grows, grown_from, grown_states, grown_cell, grown_names}
use Rattle.jb2_numbers.proofs.contexts.NumberContexts.grow.Goals as goal

grows : (c : goal.After-self-1) → Grows c.self.inside.cells.items (set c.push.new.self.items c.args.at c.with_link.result) c.args.at c.args.decision
grows c =
    let cells = c.self.inside.cells.items in
    let within : c.args.at < length cells = subst (λ (numbers : Numbers). c.args.at < length numbers.cells) (sym c.self.view_is) c.requires.within in
    let none : link (get_or cells c.args.at start) c.args.decision ≡ 0 = subst
    (λ (numbers : Numbers). link (get_or numbers.cells c.args.at start) c.args.decision ≡ 0) (sym c.self.view_is) c.requires.none in
    let pushed : c.push.new.self.items ≡ cells ++ start ∷ [] = c.in_ok-push.ensures.items ∙ ap (λ cell. cells ++ cell ∷ []) c.start.ensures in
    grown_from cells c.push.new.self.items c.args.at c.in-Ok.link c.args.decision c.index.result.now c.with_link.result c.self.invariant within none pushed c.index.ensures c.with_link.ensures (c.in-Ok.ensures.1 ∙ (c.len-next.ensures ∙ c.self.inside.cells.ok.0))

pub invariant_of-self-2 : goal.invariant_of-self-2
invariant_of-self-2 c = grown_names c.self.inside.cells.items (set c.push.new.self.items c.args.at c.with_link.result) c.args.at c.args.decision
    (grows c) c.self.invariant

pub returns-clause-cell : goal.returns-clause-cell
returns-clause-cell c before of =
    subst (λ (n : ℕ). IsCell (record { cells = set c.push.new.self.items c.args.at c.with_link.result }) (further before c.args.decision) n)
    (sym (c.len-next.ensures ∙ c.self.inside.cells.ok.0))
    (grown_cell c.self.inside.cells.items (set c.push.new.self.items c.args.at c.with_link.result) c.args.at c.args.decision (grows c) before
    (subst (λ (numbers : Numbers). IsCell numbers before c.args.at) (sym c.self.view_is) of))

pub returns-clause-same : goal.returns-clause-same
returns-clause-same c =
    grown_states c.self.inside.cells.items (set c.push.new.self.items c.args.at c.with_link.result) c.args.at c.args.decision (grows c)
    ∙ ap states_of c.self.view_is
