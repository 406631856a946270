use Rattle.std.proofs.Common.{◌≡◌, ◌*◌}
use Rattle.std.specs.Prelude.{vec_len, vec_capacity}
use Rattle.iw44_image.specs.Rasters.{painted}
use Rattle.iw44_image.proofs.rasters.Samples.paint.Given as goal

-- the rows above are there
abbrev pub invariant-loop-row : goal.invariant-loop-row
invariant-loop-row l = record {
  samples : l.out.items ≡ painted l.fn.width l.fn.height l.self (l.row * l.fn.width);
  count : vec_len l.out ≡ 3 * (l.row * l.fn.width);
  room : vec_capacity l.out ≡ 3 * l.fn.width * l.fn.height;
}
