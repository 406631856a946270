use Rattle.jb2_numbers.proofs.Cutting.{stays_behind}
use Rattle.jb2_numbers.proofs.laws.readings_stay_within.Goals as goal

pub returns-clause-states : goal.returns-clause-states
returns-clause-states c number from at count ready = (stays_behind number from ready.table at count ready.below ready.standing).states

pub returns-clause-standing : goal.returns-clause-standing
returns-clause-standing c number from at count ready = (stays_behind number from ready.table at count ready.below ready.standing).stands
