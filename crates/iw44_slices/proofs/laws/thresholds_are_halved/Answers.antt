use Rattle.iw44_slices.proofs.Sizes.{next_threshold}
use Rattle.iw44_slices.proofs.laws.thresholds_are_halved.Goals as goal

pub returns : goal.returns
returns c = next_threshold
