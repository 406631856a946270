use Rattle.std.proofs.Common.{refl}
use Rattle.djvu_base.specs.Library.{file_limit}
use Rattle.iff_chunks.proofs.heads.form_limit.Goals as goal

pub returns-clause-limit : goal.returns-clause-limit
unfolding file_limit
returns-clause-limit c = refl
