use Rattle.std.proofs.Common.{refl}
use Rattle.iff_chunks.specs.Told.{Told}
use Rattle.iff_chunks.proofs.walker.Walker.new.Goals as goal

pub returns : goal.returns
unfolding Told
returns c = (refl, refl)
