use Rattle.std.proofs.Common.{◌≡◌, ◌+◌, ◌*◌}
use Rattle.std.specs.Prelude.{vec_len, vec_capacity}
use Rattle.iw44_blocks.specs.Lattice.{values_by}
use Rattle.iw44_image.specs.Rasters.{shared_sample}
use Rattle.iw44_image.proofs.rasters.push_row.Given as goal

-- the rows below are there, and this one as far as x
abbrev pub invariant-loop-x : goal.invariant-loop-x
invariant-loop-x l = record {
  samples : l.samples.items ≡ values_by l.fn.width (l.y * l.fn.width + l.x) (shared_sample l.fn.half l.grid);
  count : vec_len l.samples ≡ l.y * l.fn.width + l.x;
  room : vec_capacity l.samples ≡ vec_capacity l.fn.samples;
}
