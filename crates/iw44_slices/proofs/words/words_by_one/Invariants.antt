use Rattle.std.proofs.Common.{◌+◌, ◌-◌, ◌*◌, ◌<◌}
use Rattle.iw44_slices.specs.Slice.{is_active, is_unknown}
use Rattle.iw44_blocks.specs.Words.{AreBits}
use Rattle.iw44_slices.specs.Reader.{place_at}
use Rattle.iw44_slices.proofs.words.words_by_one.Given as goal

abbrev pub invariant-loop-place : goal.invariant-loop-place
invariant-loop-place l = record {
  active : AreBits (is_active (place_at l.number l.block l.coefficients)) l.place (16 * l.bucket + (16 - l.place)) l.active;
  unknown : AreBits (is_unknown (place_at l.number l.block l.coefficients)) l.place (16 * l.bucket + (16 - l.place)) l.unknown;
  active_low : l.active < 65536;
  unknown_low : l.unknown < 65536;
}
