use Rattle.std.proofs.Common.{◌≡◌, sym, ap, ◌∙◌}
use Rattle.std.specs.Prelude.{slice_get}
use Rattle.page_decoder.specs.PageRead.{NeedBytes, NeedOutline, NeedFile}
use Rattle.page_decoder.specs.Read.{read}
use Rattle.page_decoder.specs.Libraries.{run_given}
use Rattle.replay_core.specs.Machine.{page_step}
use Rattle.replay_core.proofs.Needing.{end_of, page_there, open_page, no_outline, open_file}
use Rattle.replay_core.proofs.laws.needs_are_open.Goals as goal

pub returns-clause-bytes : goal.returns-clause-bytes
returns-clause-bytes c table state page it file e f answered =
    open_page table state.library it.file file f (c.needs.ensures.closed (run_given table state.library it.file))
    (end_of table state.library it NeedBytes (ap (page_step table state.library) (sym e) ∙ answered))

pub returns-clause-file : goal.returns-clause-file
returns-clause-file c table state page needed answered =
    let it = page_there table state.library (slice_get state.pages page) (NeedFile needed)
    (λ e. let wrong : NeedBytes ≡ NeedFile needed = e in cc) answered in
    let need = c.needs_of_pages.ensures table state.library it.0.file needed (end_of table state.library it.0 (NeedFile needed) it.1) in
    open_file state.library needed c.outlines_stay.ensures.whole c.outlines_stay.ensures.broken need.0 need.1

pub returns-clause-no_outline : goal.returns-clause-no_outline
returns-clause-no_outline c table state page needed answered =
    let it = page_there table state.library (slice_get state.pages page) (NeedOutline needed)
    (λ e. let wrong : NeedBytes ≡ NeedOutline needed = e in cc) answered in
    no_outline (read (run_given table state.library it.0.file)).end needed (end_of table state.library it.0 (NeedOutline needed) it.1)
