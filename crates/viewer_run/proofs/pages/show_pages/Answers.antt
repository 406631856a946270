use Rattle.std.proofs.Common.{◌∙◌, List, ℕ, refl, sym, subst}
use Rattle.djvu_base.specs.Library.{library_of, file_limit}
use Rattle.viewer_run.specs.Ended.{around}
use Rattle.viewer_run.specs.Plan.{Lists, numbers_of}
use Rattle.viewer_run.specs.Shown.{Shows}
use Rattle.viewer_run.specs.Start.{plan_for}
use Rattle.viewer_run.proofs.Numbering.{shows_listed}
use Rattle.viewer_run.proofs.Starting.{listed_files, names_of_library}
use Rattle.viewer_run.proofs.pages.show_pages.Goals as goal

pub list_pages-requires-clause-listed : goal.list_pages-requires-clause-listed
list_pages-requires-clause-listed g c told files =
    listed_files told c.args.names c.args.pages.now (c.requires.over told files) c.requires.listed.listed

pub returns-in-Info-clause-told : goal.returns-in-Info-clause-told
returns-in-Info-clause-told g c told files =
    let names : List (List ℕ) = c.args.names in
    let pages : List (List ℕ) = c.args.pages.now in
    let before =
    around (g.F.Folder.failures c.args.folder.now) (g.S.Sink.given c.args.out.now) (g.E.Sink.given c.args.report.now) (g.M.Meter.count c.args.meter.now) in
    let after =
    around (g.F.Folder.failures c.list_pages.new.folder) (g.S.Sink.given c.args.out.now) (g.E.Sink.given c.list_pages.new.report)
    (g.M.Meter.count c.args.meter.now) in
    subst (λ mode. Shows (library_of told) (plan_for mode (numbers_of names pages)) c.list_pages.result before after) (sym c.in-Info.is)
    (subst (λ (l : List (List ℕ)). Shows (library_of told) (Lists (numbers_of l pages)) c.list_pages.result before after)
    (names_of_library file_limit told ∙ sym (c.requires.over told files))
    (shows_listed told pages c.list_pages.result before after
    (listed_files told names pages (c.requires.over told files) c.requires.listed.listed) refl
    (c.list_pages.ensures.told told (g.S.Sink.given c.args.out.now) files)))
