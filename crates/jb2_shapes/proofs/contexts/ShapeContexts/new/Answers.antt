use Rattle.zp_decoder.proofs.Lemmas.{fresh_below}
use Rattle.jb2_shapes.proofs.Numbering.{all_zero}
use Rattle.jb2_shapes.proofs.contexts.ShapeContexts.new.Goals as goal

pub returns-clause-fresh : goal.returns-clause-fresh
returns-clause-fresh c = all_zero _ c.number_limit.result c.in_ok-zeros.ensures

pub returns-clause-below : goal.returns-clause-below
returns-clause-below c = fresh_below _ (all_zero _ c.number_limit.result c.in_ok-zeros.ensures)
