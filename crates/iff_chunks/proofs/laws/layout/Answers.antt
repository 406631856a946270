use Rattle.iff_chunks.proofs.Laying.{form_laid}
use Rattle.iff_chunks.proofs.LaidChunks.{laid_form}
use Rattle.iff_chunks.proofs.laws.layout.Goals as goal

pub returns-clause-laid : goal.returns-clause-laid
returns-clause-laid c = form_laid

pub returns-clause-only : goal.returns-clause-only
returns-clause-only c = laid_form
