use Rattle.page_decoder.proofs.Numbering.{number_below}
use Rattle.page_decoder.proofs.Ascending.{ascended}
use Rattle.page_decoder.proofs.page_laws.drawings.ascend.Goals as goal

pub returns-clause-order : goal.returns-clause-order
returns-clause-order c given = (ascended given (number_below given.home.names)).0

pub returns-clause-within : goal.returns-clause-within
returns-clause-within c given drawing has = (ascended given (number_below given.home.names)).1 drawing has
