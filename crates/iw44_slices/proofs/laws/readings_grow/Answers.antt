use Rattle.iw44_slices.proofs.Cutting.{cut_anywhere, whole_stays, never_exhausted}
use Rattle.iw44_slices.proofs.laws.readings_grow.Goals as goal

pub returns-clause-goes_on : goal.returns-clause-goes_on
returns-clause-goes_on c = cut_anywhere

pub returns-clause-whole : goal.returns-clause-whole
returns-clause-whole c = whole_stays

pub returns-clause-open_end : goal.returns-clause-open_end
returns-clause-open_end c = never_exhausted
