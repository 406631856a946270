use Rattle.iw44_blocks.proofs.SmallGrids.{small_grid}
use Rattle.iw44_blocks.proofs.laws.small_planes.Goals as goal

pub returns : goal.returns
returns c = small_grid
