use Rattle.iw44_slices.proofs.Telling.{slice_tells, stands_tells, stands_small}
use Rattle.iw44_slices.proofs.laws.courses_tell_coefficients.Goals as goal

pub returns-clause-whole : goal.returns-clause-whole
returns-clause-whole c = slice_tells

pub returns-clause-rest : goal.returns-clause-rest
returns-clause-rest c = stands_tells

pub returns-clause-small : goal.returns-clause-small
returns-clause-small c = stands_small
