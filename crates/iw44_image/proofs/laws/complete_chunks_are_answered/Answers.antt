use Rattle.iw44_image.proofs.Completing.{chunk_answered}
use Rattle.iw44_image.proofs.laws.complete_chunks_are_answered.Goals as goal

pub returns : goal.returns
returns c = chunk_answered
