use Rattle.std.proofs.Common.{List, Result, Err, ap, sym, subst, ◌∙◌}
use Rattle.std.proofs.lemmas.Result.{err_from_is_err_and}
use Rattle.viewer_words.specs.declared.commands.TableChoice.TheVariants as choice
use Rattle.zp_table.specs.declared.rows.Row.{Row}
use Rattle.zp_table.specs.declared.faults.TableFault.{TableFault}
use Rattle.djvu_outside.specs.declared.stops.Stop.{Stop}
use Rattle.viewer_run.specs.Start.{Starts}
use Rattle.viewer_run.proofs.Starting.{broken_read, whole_read}
use Rattle.viewer_run.proofs.tables.read_table.Goals as goal

pub returns-then-is_broken-clause-failure : goal.returns-then-is_broken-clause-failure
returns-then-is_broken-clause-failure g c told files =
    broken_read c.in_ok-file.file.end c.in_ok-file.file.bytes.items _ c.args.name.now 0 _ _ (sym c.is_broken.ensures ∙ c.if-is_broken.true)
    (c.in_ok-file.ensures.told told files)

pub returns-in_err-new-in-Ok-clause-failure : goal.returns-in_err-new-in-Ok-clause-failure
returns-in_err-new-in-Ok-clause-failure g c told files =
    let result = c.from_residual-in_err-new-in-Ok.result in
    let p = err_from_is_err_and result c.from_residual-in_err-new-in-Ok.ensures.1 in
    let old = g.F.Folder.failures c.args.folder.now in
    let new = g.F.Folder.failures c.read_file.new.folder in
    subst (λ (r : Result (Result (List Row) TableFault) Stop). Starts r (choice.File c.args.name.now) old new) (sym (p.1 ∙ ap Err p.2))
    (whole_read c.in_ok-file.file.end c.in_ok-file.file.bytes.items _ c.args.name.now 0 old new (sym c.is_broken.ensures ∙ c.if-is_broken.false)
    (c.in_ok-file.ensures.told told files))

pub returns-in-Ok-clause-failure : goal.returns-in-Ok-clause-failure
returns-in-Ok-clause-failure g c told files =
    whole_read c.in_ok-file.file.end c.in_ok-file.file.bytes.items _ c.args.name.now 0 _ _ (sym c.is_broken.ensures ∙ c.if-is_broken.false)
    (c.in_ok-file.ensures.told told files)

pub returns-in-Err-Refused-clause-failure : goal.returns-in-Err-Refused-clause-failure
returns-in-Err-Refused-clause-failure g c told files =
    whole_read c.in_ok-file.file.end c.in_ok-file.file.bytes.items _ c.args.name.now 0 _ _ (sym c.is_broken.ensures ∙ c.if-is_broken.false)
    (c.in_ok-file.ensures.told told files)

pub returns-clause-failure : goal.returns-clause-failure
returns-clause-failure g c told files =
    whole_read c.in_ok-file.file.end c.in_ok-file.file.bytes.items _ c.args.name.now 0 _ _ (sym c.is_broken.ensures ∙ c.if-is_broken.false)
    (c.in_ok-file.ensures.told told files)
