use Rattle.std.proofs.Common.{◌≡◌, ◌*◌, map}
use Rattle.std.specs.Prelude.{vec_len, vec_capacity}
use Rattle.iw44_blocks.specs.Lattice.{value_at, values_by, half_up}
use Rattle.iw44_blocks.specs.Plane.{grid_of}
use Rattle.iw44_blocks.proofs.coefficients.Coefficients.quarter_in.Given as goal

-- the even rows as far as y are there
abbrev pub invariant-loop-y : goal.invariant-loop-y
invariant-loop-y g l = record {
  values : map g.T.Number.value l.values.items ≡ values_by (half_up l.self.width) (l.y * half_up l.self.width)
      (λ x y. value_at (grid_of l.self) (2 * x) (2 * y));
  count : vec_len l.values ≡ l.y * half_up l.self.width;
  room : vec_capacity l.values ≡ half_up l.self.width * half_up l.self.height;
}
