use Rattle.iff_chunks.proofs.Bounds.{cut_is_early, few_chunks}
use Rattle.iff_chunks.proofs.laws.bounds.Goals as goal

pub returns-clause-cut_is_early : goal.returns-clause-cut_is_early
returns-clause-cut_is_early c = cut_is_early

pub returns-clause-few_chunks : goal.returns-clause-few_chunks
returns-clause-few_chunks c = few_chunks
