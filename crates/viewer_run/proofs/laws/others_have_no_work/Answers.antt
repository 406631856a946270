use Rattle.viewer_run.proofs.Working.{work_of_others, work_of_refused}
use Rattle.viewer_run.proofs.laws.others_have_no_work.Goals as goal

pub returns-clause-others : goal.returns-clause-others
returns-clause-others c library words none = work_of_others library words none

pub returns-clause-refused : goal.returns-clause-refused
returns-clause-refused c library words refused = work_of_refused library words refused
