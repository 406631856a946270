use Rattle.jb2_numbers.proofs.Cutting.{stopped_anywhere, number_stays}
use Rattle.jb2_numbers.proofs.laws.stops_change_nothing.Goals as goal

pub returns-clause-reading : goal.returns-clause-reading
returns-clause-reading c = stopped_anywhere

pub returns-clause-known : goal.returns-clause-known
returns-clause-known c = number_stays
