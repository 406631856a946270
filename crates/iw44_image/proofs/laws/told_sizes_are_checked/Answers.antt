use Rattle.iw44_image.proofs.Sizing.{untold_same, told_taken, told_refused}
use Rattle.iw44_image.proofs.laws.told_sizes_are_checked.Goals as goal

pub returns-clause-untold : goal.returns-clause-untold
returns-clause-untold c = untold_same

pub returns-clause-taken : goal.returns-clause-taken
returns-clause-taken c = told_taken

pub returns-clause-refused : goal.returns-clause-refused
returns-clause-refused c = told_refused
