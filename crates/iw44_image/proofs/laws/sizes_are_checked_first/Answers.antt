use Rattle.iw44_image.proofs.Checking.{refused_first, taken_first, later_same, short_same, wrong_same}
use Rattle.iw44_image.proofs.laws.sizes_are_checked_first.Goals as goal

pub returns-clause-refused : goal.returns-clause-refused
returns-clause-refused c = refused_first

pub returns-clause-taken : goal.returns-clause-taken
returns-clause-taken c = taken_first

pub returns-clause-later : goal.returns-clause-later
returns-clause-later c = later_same

pub returns-clause-short : goal.returns-clause-short
returns-clause-short c = short_same

pub returns-clause-wrong : goal.returns-clause-wrong
returns-clause-wrong c = wrong_same
