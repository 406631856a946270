use Rattle.std.proofs.Common.{refl}
use Rattle.iw44_slices.specs.Reader.{Left}
use Rattle.iw44_slices.proofs.spots.Spot.new.Goals as goal

pub returns : goal.returns
unfolding Left
returns c width height = record { number = refl; is = refl }
