use Rattle.std.proofs.Common.{arith}
use Rattle.iw44_image.proofs.image.IwImage.raster.Goals as goal

pub raster-requires-in-None-clause-sound : goal.raster-requires-in-None-clause-sound
raster-requires-in-None-clause-sound c = (1, c.in_ok-new-in-None.ensures.sound 1 (omega arith))
