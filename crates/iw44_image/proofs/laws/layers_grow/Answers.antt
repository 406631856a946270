use Rattle.iw44_image.proofs.Listing.{last_refused, last_open, last_grows}
use Rattle.iw44_image.proofs.laws.layers_grow.Goals as goal

pub returns-clause-refused : goal.returns-clause-refused
returns-clause-refused c = last_refused

pub returns-clause-open_end : goal.returns-clause-open_end
returns-clause-open_end c = last_open

pub returns-clause-decisions : goal.returns-clause-decisions
returns-clause-decisions c = last_grows
