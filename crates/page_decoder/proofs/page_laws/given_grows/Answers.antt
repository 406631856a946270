use Rattle.page_decoder.proofs.GoingOn.{within_same, within_both}
use Rattle.page_decoder.proofs.page_laws.given_grows.Goals as goal

pub returns-clause-same : goal.returns-clause-same
returns-clause-same c given = within_same given

pub returns-clause-both : goal.returns-clause-both
returns-clause-both c less more most on later = within_both less more most on later
