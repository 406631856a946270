use Rattle.std.proofs.Common.{refl}
use Rattle.djvu_base.specs.Library.{file_limit}
use Rattle.iff_chunks.proofs.laws.worked_lengths.Goals as goal

pub returns-clause-bare : goal.returns-clause-bare
unfolding file_limit
returns-clause-bare c = refl

pub returns-clause-bare_larger : goal.returns-clause-bare_larger
unfolding file_limit
returns-clause-bare_larger c = refl

pub returns-clause-longest : goal.returns-clause-longest
unfolding file_limit
returns-clause-longest c = refl

pub returns-clause-larger : goal.returns-clause-larger
unfolding file_limit
returns-clause-larger c = refl
