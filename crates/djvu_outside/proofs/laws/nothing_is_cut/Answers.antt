use Rattle.djvu_outside.proofs.Lemmas.{nothing_cut}
use Rattle.djvu_outside.proofs.laws.nothing_is_cut.Goals as goal

pub returns : goal.returns
returns c = nothing_cut
