use Rattle.iw44_lifting.proofs.Quarters.{quarter_scale, quarter_transform}
use Rattle.iw44_lifting.proofs.laws.even_places_alone.Goals as goal

pub returns-clause-scale : goal.returns-clause-scale
returns-clause-scale c scale grid some = quarter_scale scale grid some

pub returns-clause-all : goal.returns-clause-all
returns-clause-all c grid = quarter_transform grid
