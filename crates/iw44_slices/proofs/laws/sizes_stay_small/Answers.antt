use Rattle.iw44_slices.proofs.Staying.{new_due, still_due, due_is_small, partly_small}
use Rattle.iw44_slices.proofs.laws.sizes_stay_small.Goals as goal

pub returns-clause-new : goal.returns-clause-new
returns-clause-new c = new_due

pub returns-clause-after : goal.returns-clause-after
returns-clause-after c = still_due

pub returns-clause-small : goal.returns-clause-small
returns-clause-small c = due_is_small

pub returns-clause-partly : goal.returns-clause-partly
returns-clause-partly c = partly_small
