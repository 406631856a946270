use Rattle.viewer_run.proofs.Stating.{failed, refused, done, below, one}
use Rattle.viewer_run.proofs.laws.statuses_tell.Goals as goal

pub returns-clause-failed : goal.returns-clause-failed
returns-clause-failed c first all library words texts outcome = failed first all library words texts outcome

pub returns-clause-refused : goal.returns-clause-refused
returns-clause-refused c first all library words texts outcome = refused first all library words texts outcome

pub returns-clause-done : goal.returns-clause-done
returns-clause-done c files words texts outcome = done c.closed_libraries.ensures.known files words texts outcome

pub returns-clause-below : goal.returns-clause-below
returns-clause-below c first all library words texts outcome = below first all library words texts outcome

pub returns-clause-one : goal.returns-clause-one
returns-clause-one c first all library words texts others same outcome other = one first all library words texts others same outcome other
