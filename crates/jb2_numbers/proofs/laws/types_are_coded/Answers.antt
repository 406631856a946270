use Rattle.jb2_numbers.proofs.Starting.{type_codes}
use Rattle.jb2_numbers.proofs.laws.types_are_coded.Goals as goal

pub returns : goal.returns
returns c = type_codes
