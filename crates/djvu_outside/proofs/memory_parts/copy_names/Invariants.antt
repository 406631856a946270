use Rattle.std.proofs.Common.{◌≡◌, take}
use Rattle.djvu_base.specs.Library.{names_of}
use Rattle.djvu_outside.proofs.memory_parts.copy_names.Given as goal

abbrev pub invariant-loop-file : goal.invariant-loop-file
invariant-loop-file l = l.names.items ≡ names_of (take l.file-index l.files)
