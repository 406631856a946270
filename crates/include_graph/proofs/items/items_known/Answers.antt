use Rattle.std.proofs.Common.{sym, ap, ◌∙◌}
use Rattle.include_graph.specs.Verdicts.{outline_in}
use Rattle.include_graph.specs.Stack.{items_known}
use Rattle.include_graph.proofs.Stepping.{in_list_at}
use Rattle.include_graph.proofs.items.items_known.Goals as goal

pub returns-in-Some : goal.returns-in-Some
returns-in-Some c = c.slice.ensures ∙ ap (λ o. o.items) c.deref.ensures
    ∙ sym (ap items_known (in_list_at c.args.outlines.now c.args.file c.index-outlines-file.result c.requires c.index-outlines-file.is
    ∙ ap outline_in c.in-Some.is))

pub returns-in-None : goal.returns-in-None
returns-in-None c = sym (ap items_known (in_list_at c.args.outlines.now c.args.file c.index-outlines-file.result c.requires c.index-outlines-file.is
    ∙ ap outline_in c.in-None.is))
