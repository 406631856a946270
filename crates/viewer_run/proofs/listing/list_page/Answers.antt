use Rattle.std.proofs.Common.{Ok, List, ℕ}
use Rattle.djvu_outside.proofs.Lemmas.{puts_report}
use Rattle.viewer_run.specs.declared.shown.Shown.{Shown}
use Rattle.viewer_run.proofs.Showing.{read_with, lists_page, lists_nothing, gives_err, gives_ok, done_err}
use Rattle.viewer_run.proofs.listing.list_page.Goals as goal

pub returns-in_err-file-clause-told : goal.returns-in_err-file-clause-told
returns-in_err-file-clause-told g c told out files =
    lists_nothing told c.args.page.now c.from_residual.result _ _ _ c.from_residual.ensures.0 (c.in_err-file.ensures.told told files)

pub returns-in_err-refused-clause-told : goal.returns-in_err-refused-clause-told
returns-in_err-refused-clause-told g c told out files =
    let name : List ℕ = c.args.page.now in
    let bytes : List ℕ = c.in_ok-file.file.bytes.items in
    let end = c.in_ok-file.file.end in
    let read =
    read_with told name bytes end (g.F.Folder.failures c.args.folder.now) (g.F.Folder.failures c.read_file.new.folder) (c.in_ok-file.ensures.told told files) in
    let put = c.put_info.result in
    let fault = c.in_err-refused.field-0.0 in
    let result = c.from_residual-in_err-refused.result in
    let is_err = c.from_residual-in_err-refused.ensures.0 in
    lists_page told name bytes end put result _ _ _ _ read (λ puts. gives_err put fault result c.in_err-refused.was is_err _ _ puts)
    (puts_report put _ _ out _ c.put_info.ensures.report_text) (done_err result _ _ is_err)

pub returns-clause-told : goal.returns-clause-told
returns-clause-told g c told out files =
    let name : List ℕ = c.args.page.now in
    let bytes : List ℕ = c.in_ok-file.file.bytes.items in
    let end = c.in_ok-file.file.end in
    let read =
    read_with told name bytes end (g.F.Folder.failures c.args.folder.now) (g.F.Folder.failures c.read_file.new.folder) (c.in_ok-file.ensures.told told files) in
    let put = c.put_info.result in
    let refused = c.in_ok-refused.refused in
    let shown : Shown = record { refused = refused; broken = c.is_broken.result } in
    lists_page told name bytes end put (Ok shown) _ _ _ _ read (λ puts. gives_ok put refused shown c.in_ok-refused.was _ _ puts)
    (puts_report put _ _ out _ c.put_info.ensures.report_text) (c.in_ok-refused.ensures.refused, c.is_broken.ensures)
