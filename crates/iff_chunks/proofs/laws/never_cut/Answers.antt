use Rattle.iff_chunks.proofs.Uncut.{uncut}
use Rattle.iff_chunks.proofs.laws.never_cut.Goals as goal

pub returns : goal.returns
returns c bytes offset = uncut bytes offset
