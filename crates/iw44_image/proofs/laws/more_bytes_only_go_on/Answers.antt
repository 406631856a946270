use Rattle.iw44_image.proofs.Growing.{chunk_grows, chunk_refused, chunk_open}
use Rattle.iw44_image.proofs.laws.more_bytes_only_go_on.Goals as goal

pub returns-clause-refused : goal.returns-clause-refused
returns-clause-refused c = chunk_refused

pub returns-clause-open_end : goal.returns-clause-open_end
returns-clause-open_end c = chunk_open

pub returns-clause-decisions : goal.returns-clause-decisions
returns-clause-decisions c = chunk_grows
