use Rattle.jb2_shapes.proofs.Cutting.{cut_anywhere}
use Rattle.jb2_shapes.proofs.laws.cuts_change_nothing.Goals as goal

pub returns : goal.returns
returns c context rows payload more ended at ready = cut_anywhere context rows payload more ended at ready.table ready.below ready.standing
