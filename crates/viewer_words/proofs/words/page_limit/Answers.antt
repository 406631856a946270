use Rattle.std.proofs.Common.{rules}
use Rattle.viewer_words.specs.Words.{page_limit}
use Rattle.viewer_words.proofs.words.page_limit.Goals as goal

pub returns : goal.returns
unfolding page_limit
returns c = search rules
