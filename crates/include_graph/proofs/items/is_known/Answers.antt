use Rattle.std.proofs.Common.{◌≡◌, Option, Some, None, refl, sym, ap, ◌∙◌, is_some}
use Rattle.std.specs.declared.sync.Arc.{Arc}
use Rattle.include_graph.specs.declared.outline.Outline.{Outline}
use Rattle.include_graph.specs.Verdicts.{outline_in}
use Rattle.include_graph.proofs.Stepping.{in_list_at}
use Rattle.include_graph.proofs.items.is_known.Goals as goal

same_test : {Z : Type 0} (outline : Option (Arc Outline Z)) → is_some outline ≡ is_some (outline_in outline)
same_test None = refl
same_test (Some outline) = refl

pub returns : goal.returns
returns c = c.is_some.ensures ∙ same_test c.index-outlines-file.result
    ∙ sym (ap is_some (in_list_at c.args.outlines.now c.args.file c.index-outlines-file.result c.requires c.index-outlines-file.is))
