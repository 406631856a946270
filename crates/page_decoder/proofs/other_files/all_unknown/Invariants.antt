use Rattle.std.proofs.Common.{◌≡◌, None, replicate}
use Rattle.page_decoder.proofs.other_files.all_unknown.Given as goal

abbrev pub invariant-loop : goal.invariant-loop
invariant-loop g l = l.places.items ≡ replicate l.counter None
