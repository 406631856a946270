use Rattle.iw44_image.proofs.Growing.{chunk_bounded}
use Rattle.iw44_image.proofs.laws.decisions_of_a_chunk_are_bounded.Goals as goal

pub returns : goal.returns
returns c = chunk_bounded
