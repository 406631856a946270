use Rattle.std.proofs.Common.{◌≡◌, ◌*◌}
use Rattle.std.specs.Prelude.{vec_len, vec_capacity}
use Rattle.iw44_blocks.specs.Lattice.{values_by}
use Rattle.iw44_image.specs.Rasters.{shared_sample}
use Rattle.iw44_image.proofs.rasters.grid_samples.Given as goal

-- the rows as far as y are there
abbrev pub invariant-loop-y : goal.invariant-loop-y
invariant-loop-y l = record {
  samples : l.samples.items ≡ values_by l.fn.width (l.y * l.fn.width) (shared_sample l.fn.half l.grid);
  count : vec_len l.samples ≡ l.y * l.fn.width;
  room : vec_capacity l.samples ≡ l.fn.width * l.fn.height;
}
