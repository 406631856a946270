use Rattle.std.proofs.Common.{refl}
use Rattle.djvu_base.specs.Library.{file_limit}
use Rattle.iff_chunks.proofs.laws.worked_events.Goals as goal

pub returns-clause-whole : goal.returns-clause-whole
unfolding file_limit
returns-clause-whole c = refl

pub returns-clause-part : goal.returns-clause-part
unfolding file_limit
returns-clause-part c = refl

pub returns-clause-no_data : goal.returns-clause-no_data
unfolding file_limit
returns-clause-no_data c = refl
