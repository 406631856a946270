use Rattle.jb2_shapes.proofs.Cutting.{stays_within}
use Rattle.jb2_shapes.proofs.laws.readings_stay_within.Goals as goal

pub returns : goal.returns
returns c context rows payload ended at ready = stays_within context rows payload ended at ready.table ready.below ready.standing
