use Rattle.std.proofs.Common.{sym, ap}
use Rattle.page_decoder.specs.Read.{read, done_by}
use Rattle.page_decoder.proofs.Numbering.{number_below}
use Rattle.page_decoder.proofs.Serving.{read_same, read_over, over_lacks}
use Rattle.page_decoder.proofs.page_laws.included_files.Goals as goal

pub returns-clause-alone : goal.returns-clause-alone
returns-clause-alone c given known outline role it agree =
    ap done_by (sym (read_same given known outline role (number_below given.home.names) it agree))

pub returns-clause-stays : goal.returns-clause-stays
returns-clause-stays c less more outline is within role it served =
    ap done_by (c.growth.ensures.unmet less more is within
    (over_lacks less more (read less).end (read_over less outline role (number_below less.home.names) it served)))

pub returns-clause-over : goal.returns-clause-over
returns-clause-over c given outline role it served = read_over given outline role (number_below given.home.names) it served
