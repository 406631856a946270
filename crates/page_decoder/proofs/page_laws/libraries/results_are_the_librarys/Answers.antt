use Rattle.page_decoder.specs.Given.{Page}
use Rattle.page_decoder.specs.Libraries.{results_in}
use Rattle.page_decoder.proofs.GoingOn.{same_library, within_library}
use Rattle.page_decoder.proofs.Building.{made_results, made_known}
use Rattle.page_decoder.proofs.page_laws.libraries.results_are_the_librarys.Goals as goal

pub returns-clause-made : goal.returns-clause-made
returns-clause-made c table library results page file built made =
    made_results table library results c.included_files.ensures.alone built c.lists.ensures.order c.lists.ensures.length c.lists.ensures.listed page file made

pub returns-clause-known : goal.returns-clause-known
returns-clause-known c table library results file it built e =
    made_known table library results c.included_files.ensures.alone built
    (λ page other made. returns-clause-made c table library results page other built made) file it e

pub returns-clause-pages : goal.returns-clause-pages
returns-clause-pages c table library results page built =
    within_library c.outlines_stay.ensures.stays Page table library library page results (results_in table library) (same_library library)
    (λ other it e. returns-clause-known c table library results other it built e)
