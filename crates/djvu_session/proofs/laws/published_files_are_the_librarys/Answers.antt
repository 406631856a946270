use Rattle.std.proofs.Common.{◌≤◌, sym, subst}
use Rattle.djvu_base.specs.Meter.{TicksExactly}
use Rattle.page_decoder.specs.Given.{Page}
use Rattle.page_decoder.specs.Read.{FileDone}
use Rattle.page_decoder.specs.Libraries.{given_in, run_given}
use Rattle.djvu_session.proofs.Spending.{is_built}
use Rattle.djvu_session.proofs.laws.published_files_are_the_librarys.Goals as goal

pub returns-clause-built : goal.returns-clause-built
returns-clause-built c table library known published = is_built table library known published

pub returns-clause-reached : goal.returns-clause-reached
returns-clause-reached c table library results page file spent result is built it =
    c.needs.ensures.stay_reached (given_in Page table library page results) (run_given table library page) file is
    (c.results_are_the_librarys.ensures.pages table library results page built) it.made.reached

pub returns-clause-at_most : goal.returns-clause-at_most
returns-clause-at_most c table library results page file spent result built it =
    subst (λ (d : FileDone). spent ≤ d.decisions) (sym (c.results_are_the_librarys.ensures.made table library results page file built it.made).1) it.at_most

pub returns-clause-all : goal.returns-clause-all
returns-clause-all c table library results page file spent result built it memory =
    subst (λ (d : FileDone). TicksExactly d.decisions 0 spent) (sym (c.results_are_the_librarys.ensures.made table library results page file built it.made).1)
    (it.decisions memory)
