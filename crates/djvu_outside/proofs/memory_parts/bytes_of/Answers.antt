use Rattle.djvu_outside.proofs.FolderLemmas.{bytes_at-index}
use Rattle.djvu_outside.proofs.memory_parts.bytes_of.Goals as goal

pub returns : goal.returns
returns c =
    let at = bytes_at-index c.args.files.now c.args.file c.index-files-file.result c.requires c.index-files-file.is in
    rw at (rw (← c.index-files-file.is) at c.slice.ensures)
