use Rattle.page_decoder.specs.Given.{Page}
use Rattle.page_decoder.specs.Read.{read}
use Rattle.page_decoder.specs.Libraries.{given_in, run_given}
use Rattle.djvu_session.proofs.Telling.{told_on, told_by_run}
use Rattle.djvu_session.proofs.laws.told_stays.Goals as goal

pub returns-clause-more : goal.returns-clause-more
returns-clause-more c less more page is within told =
    told_on (read less) (read more) page (c.growth.ensures.told less more is within) (c.growth.ensures.notices less more is within)
    (c.growth.ensures.finished less more is within) (λ fault. c.growth.ensures.refused less more fault is within) told

pub returns-clause-run : goal.returns-clause-run
returns-clause-run c table library results file page is built told =
    let less = given_in Page table library file results in
    let more = run_given table library file in
    let within = c.results_are_the_librarys.ensures.pages table library results file built in
    told_by_run (read more) page
    (told_on (read less) (read more) page (c.growth.ensures.told less more is within) (c.growth.ensures.notices less more is within)
    (c.growth.ensures.finished less more is within) (λ fault. c.growth.ensures.refused less more fault is within) told)
