use Rattle.jb2_numbers.proofs.Cutting.{cut_anywhere}
use Rattle.jb2_numbers.proofs.laws.cuts_change_nothing.Goals as goal

pub returns : goal.returns
returns c = cut_anywhere
