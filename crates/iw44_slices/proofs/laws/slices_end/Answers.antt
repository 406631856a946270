use Rattle.iw44_slices.proofs.Ending.{slice_ends}
use Rattle.iw44_slices.proofs.laws.slices_end.Goals as goal

pub returns : goal.returns
returns c = slice_ends
