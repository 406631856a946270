use Rattle.std.proofs.Common.{◌≡◌, ◌*◌}
use Rattle.bit_plane.specs.Bits.{bit}
use Rattle.bit_plane.proofs.Totals.{total}
use Rattle.bit_plane.proofs.words.count_set.Given as goal

abbrev pub invariant-loop-word : goal.invariant-loop-word
invariant-loop-word l = l.count ≡ total (bit l.words) (64 * l.word-index)
