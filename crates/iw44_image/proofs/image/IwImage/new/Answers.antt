use Rattle.std.proofs.Common.{refl}
use Rattle.iw44_image.specs.Image.{Holds}
use Rattle.iw44_image.proofs.image.IwImage.new.Goals as goal

pub returns-clause-holds : goal.returns-clause-holds
unfolding Holds
returns-clause-holds c = record { layer_is = refl; left_is = c.new-2.ensures; placed = refl }
