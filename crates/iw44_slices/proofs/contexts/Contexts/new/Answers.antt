use Rattle.std.proofs.Common.{refl}
use Rattle.iw44_slices.proofs.Numbering.{all_zero}
use Rattle.iw44_slices.proofs.contexts.Contexts.new.Goals as goal

pub returns : goal.returns
returns c = all_zero _ 98 refl
