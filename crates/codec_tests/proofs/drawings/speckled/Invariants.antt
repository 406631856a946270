use Rattle.std.proofs.Common.{◌≡◌}
use Rattle.codec_tests.proofs.drawings.speckled.Given as goal

abbrev pub invariant-loop-at : goal.invariant-loop-at
invariant-loop-at l = (l.mask.width ≡ l.width) × (l.mask.height ≡ l.height)
