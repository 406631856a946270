use Rattle.std.proofs.Common.{◌≡◌, ◌+◌, ◌*◌}
use Rattle.std.specs.Prelude.{vec_len, vec_capacity}
use Rattle.iw44_image.specs.Rasters.{painted}
use Rattle.iw44_image.proofs.rasters.Samples.paint_row.Given as goal

-- the rows above are there, and this one as far as x
abbrev pub invariant-loop-x : goal.invariant-loop-x
invariant-loop-x l = record {
  samples : l.out.items ≡ painted l.fn.width l.fn.height l.self (l.fn.row * l.fn.width + l.x);
  count : vec_len l.out ≡ 3 * (l.fn.row * l.fn.width + l.x);
  room : vec_capacity l.out ≡ vec_capacity l.fn.out;
}
