use Rattle.std.proofs.Common.{◌≡◌, List, Result, ap, sym, subst, IfOk, ◌∙◌}
use Rattle.djvu_base.specs.Library.{library_of}
use Rattle.zp_table.specs.declared.rows.Row.{Row}
use Rattle.zp_table.specs.declared.faults.TableFault.{TableFault}
use Rattle.viewer_run.specs.Plan.{table_of}
use Rattle.viewer_run.proofs.Starting.{table_found}
use Rattle.viewer_run.proofs.tables.choose_table.Goals as goal

pub returns-in-File-clause-told : goal.returns-in-File-clause-told
returns-in-File-clause-told g c told files =
    let table = sym (table_found told c.in-File.name) ∙ ap (table_of (library_of told)) (sym c.in-File.is) in
    subst (λ (t : Result (List Row) TableFault). IfOk c.read_table.result (λ table. table ≡ t)) table (c.read_table.ensures.told told files)
