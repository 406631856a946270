use Rattle.iw44_slices.proofs.Advancing.{new_stands}
use Rattle.iw44_slices.proofs.reader.SliceReader.new.Goals as goal

pub returns-clause-stands : goal.returns-clause-stands
returns-clause-stands c width height = new_stands width height c.new.result c.new-2.result c.new-2.ensures
