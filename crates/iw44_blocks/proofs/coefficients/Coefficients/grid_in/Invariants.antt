use Rattle.std.proofs.Common.{◌≡◌, ◌*◌, map}
use Rattle.std.specs.Prelude.{vec_len, vec_capacity}
use Rattle.iw44_blocks.specs.Lattice.{values_by}
use Rattle.iw44_blocks.specs.Plane.{coefficient_at}
use Rattle.iw44_blocks.proofs.coefficients.Coefficients.grid_in.Given as goal

-- the rows as far as y are there
abbrev pub invariant-loop-y : goal.invariant-loop-y
invariant-loop-y g l = record {
  values : map g.T.Number.value l.values.items ≡ values_by l.self.width (l.y * l.self.width) (coefficient_at l.self);
  count : vec_len l.values ≡ l.y * l.self.width;
  room : vec_capacity l.values ≡ l.self.width * l.self.height;
}
