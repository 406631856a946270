use Rattle.page_decoder.proofs.Numbering.{number_below}
use Rattle.page_decoder.proofs.Showing.{shown, fault_below}
use Rattle.page_decoder.proofs.page_laws.shows.Goals as goal

pub returns-clause-drawn : goal.returns-clause-drawn
returns-clause-drawn c given page e = (shown given (number_below given.home.names)).drawn e page

pub returns-clause-layers : goal.returns-clause-layers
returns-clause-layers c given = (shown given (number_below given.home.names)).layers

pub returns-clause-faults : goal.returns-clause-faults
returns-clause-faults c given fault own results e =
    fault_below given (number_below given.home.names) own results c.below.ensures.refused c.lists.ensures.order fault e
