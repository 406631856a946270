use Rattle.std.proofs.Common.{subst}
use Rattle.page_decoder.specs.Read.{read}
use Rattle.page_decoder.specs.Needs.{Because}
use Rattle.page_decoder.proofs.Numbering.{number_below}
use Rattle.page_decoder.proofs.Needing.{ended, known_end, front_among}
use Rattle.page_decoder.proofs.Asking.{next_below, unknown_lacking}
use Rattle.page_decoder.proofs.page_laws.needs.Goals as goal

pub returns-clause-because : goal.returns-clause-because
returns-clause-because c given = (ended given (number_below given.home.names)).because

pub returns-clause-outline : goal.returns-clause-outline
returns-clause-outline c given file e =
    unknown_lacking given.home given.known c.verdicts_ask.ensures c.below.ensures.asked
    (read given).left.decoded.pending file
    (subst (λ end. Because given.home given.known (read given).left.decoded.pending end) e (ended given (number_below given.home.names)).because)

pub returns-clause-file : goal.returns-clause-file
returns-clause-file c given file e =
    let pending = (read given).left.decoded.pending in
    let next = subst (λ end. Because given.home given.known pending end) e (ended given (number_below given.home.names)).because in
    (next.lacking, next_below given.home given.known pending c.lists.ensures.order file next)

pub returns-clause-closed : goal.returns-clause-closed
returns-clause-closed c given m e = known_end given.mark given.bytes m ((ended given (number_below given.home.names)).quiet e)

pub returns-clause-reached : goal.returns-clause-reached
returns-clause-reached c given file m = (ended given (number_below given.home.names)).reached file m

pub returns-clause-stay_reached : goal.returns-clause-stay_reached
returns-clause-stay_reached c less more file is within m =
    front_among file (read less).left.told.reached (read more).left.told.reached (c.growth.ensures.told less more is within).reached m

pub returns-clause-needed : goal.returns-clause-needed
returns-clause-needed c given file e = (ended given (number_below given.home.names)).needed file e
