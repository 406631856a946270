use Rattle.jb2_numbers.proofs.Ending.{possible_from}
use Rattle.jb2_numbers.proofs.laws.readings_stay_possible.Goals as goal

pub returns : goal.returns
returns c = possible_from
