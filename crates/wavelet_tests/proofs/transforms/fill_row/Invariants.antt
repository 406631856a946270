use Rattle.iw44_blocks.specs.Lattice.{IsWithin}
use Rattle.wavelet_tests.proofs.transforms.fill_row.Given as goal

abbrev pub invariant-loop-x : goal.invariant-loop-x
invariant-loop-x l = IsWithin 32767 l.grid
