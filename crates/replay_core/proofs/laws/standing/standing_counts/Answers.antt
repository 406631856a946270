use Rattle.replay_core.specs.Core.{Stands, StandsSo}
use Rattle.replay_core.proofs.Together.{counted_files, state_files, is_sound}
use Rattle.replay_core.proofs.laws.standing.standing_counts.Goals as goal

pub returns-clause-within : goal.returns-clause-within
unfolding Stands
returns-clause-within c state counts core stands = let so : StandsSo state counts core = stands in so.within

pub returns-clause-files : goal.returns-clause-files
unfolding Stands
returns-clause-files c state counts core stands = counted_files state counts core stands

pub returns-clause-pages : goal.returns-clause-pages
unfolding Stands
returns-clause-pages c state counts core stands = state_files state counts core stands

pub returns-clause-sound : goal.returns-clause-sound
unfolding Stands
returns-clause-sound c state counts core stands = is_sound state counts core stands
