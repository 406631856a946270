use Rattle.std.proofs.Common.{◌≡◌}
use Rattle.page_decoder.specs.Libraries.{run_given}
use Rattle.page_decoder.proofs.Working.{reached_listed}
use Rattle.page_decoder.proofs.page_laws.libraries.reached_files_stay.Goals as goal

pub returns : goal.returns
returns c table library later file page is on reached =
    let given = run_given table library page in
    let list = reached_listed c.lists.ensures.listed table library page file (c.needs.ensures.reached given file reached) (c.needs.ensures.because given) in (
      c.needs.ensures.stay_reached given (run_given table later page) file is (c.libraries_go_on.ensures.given table library later page is on) reached,
      (c.libraries_go_on.ensures.results table library later file list.0 is on list.1).1,
    )
