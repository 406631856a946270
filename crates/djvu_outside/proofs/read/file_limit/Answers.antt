use Rattle.std.proofs.Common.{refl}
use Rattle.djvu_base.specs.Library.{file_limit}
use Rattle.djvu_outside.proofs.read.file_limit.Goals as goal

pub returns-clause-limit : goal.returns-clause-limit
unfolding file_limit
returns-clause-limit c = refl
