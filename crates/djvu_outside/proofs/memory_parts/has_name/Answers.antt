use Rattle.djvu_outside.proofs.FolderLemmas.{name_at-index}
use Rattle.djvu_outside.proofs.memory_parts.has_name.Goals as goal

pub returns : goal.returns
returns c =
    let at = name_at-index c.args.files.now c.args.file c.index-files-file.result c.requires c.index-files-file.is in
    let other = rw (← c.index-files-file.is) at c.bytes-2.ensures.bytes in
    rw at (cc)
