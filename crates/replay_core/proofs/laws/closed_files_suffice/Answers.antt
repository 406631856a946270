use Rattle.std.proofs.Common.{sym, subst}
use Rattle.page_decoder.specs.Libraries.{run}
use Rattle.replay_core.specs.Machine.{page_step, GoesWell}
use Rattle.replay_core.proofs.Ending.{goes_well, steps_end}
use Rattle.replay_core.proofs.laws.closed_files_suffice.Goals as goal

pub returns-clause-steps : goal.returns-clause-steps
returns-clause-steps c table state page it closed e below =
    subst (λ f. GoesWell (page_step table state.library f)) (sym e)
    (goes_well table state.library it (c.closed_libraries.ensures.over table state.library it.file below closed))

pub returns-clause-ends : goal.returns-clause-ends
returns-clause-ends c table state page count it is sound closed e below many = (
  (run table state.library it.file).end,
  c.closed_libraries.ensures.over table state.library it.file below closed,
  steps_end table state page count it e (sound page it e) many,
)
