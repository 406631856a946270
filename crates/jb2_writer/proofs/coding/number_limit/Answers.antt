use Rattle.std.proofs.Common.{refl}
use Rattle.jb2_shapes.specs.Numbers.{number_limit}
use Rattle.jb2_writer.proofs.coding.number_limit.Goals as goal

pub returns : goal.returns
unfolding number_limit
returns c = refl
