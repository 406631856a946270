use Rattle.iw44_blocks.specs.Lattice.{IsWithin}
use Rattle.wavelet_tests.proofs.transforms.drawn_grid.Given as goal

abbrev pub invariant-loop-y : goal.invariant-loop-y
invariant-loop-y l = IsWithin 32767 l.grid
