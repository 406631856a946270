use Rattle.std.proofs.Common.{◌∙◌, take, subst}
use Rattle.djvu_outside.specs.Reading.{bytes_in, opened_at_start}
use Rattle.djvu_outside.specs.FileReads.{Reads}
use Rattle.djvu_outside.proofs.read.read_file.Goals as goal

pub returns-in-Ok-clause-told : goal.returns-in-Ok-clause-told
returns-in-Ok-clause-told g c told files =
    let content = bytes_in told c.args.name.now in
    let was = c.in-Ok.ensures.failure told files in
    let read = c.read_open.ensures.told told (opened_at_start c.args.name.now) (c.in-Ok.ensures.same_files ∙ files) c.in-Ok.ensures.ok in
    subst (λ n. Reads c.read_open.result (take n content) c.args.name.now 0 (g.F.Folder.failures c.args.folder.now) (g.F.Folder.failures c.read_open.new.folder)) c.file_limit.ensures.limit
    (subst (λ f. Reads c.read_open.result (take c.file_limit.result content) c.args.name.now 0 f (g.F.Folder.failures c.read_open.new.folder)) was read)
