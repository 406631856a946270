use Rattle.std.proofs.Common.{◌≡◌, drop}
use Rattle.djvu_base.specs.Library.{contents_of}
use Rattle.djvu_outside.proofs.memory_parts.place_of.Given as goal

abbrev pub invariant-loop-file : goal.invariant-loop-file
invariant-loop-file l = contents_of l.name (drop l.file l.files) ≡ contents_of l.name l.files
