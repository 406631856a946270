use Rattle.std.proofs.Common.{◌≡◌, take}
use Rattle.viewer_run.proofs.numbers.copy_names.Given as goal

-- so many names were copied
abbrev pub invariant-loop-name : goal.invariant-loop-name
invariant-loop-name l = l.copies.items ≡ take l.name-index l.names
