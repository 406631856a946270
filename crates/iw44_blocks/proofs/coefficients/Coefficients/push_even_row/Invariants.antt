use Rattle.std.proofs.Common.{◌≡◌, ◌+◌, ◌*◌, map}
use Rattle.std.specs.Prelude.{vec_len, vec_capacity}
use Rattle.iw44_blocks.specs.Lattice.{value_at, values_by, half_up}
use Rattle.iw44_blocks.specs.Plane.{grid_of}
use Rattle.iw44_blocks.proofs.coefficients.Coefficients.push_even_row.Given as goal

-- the even rows below are there, and this one as far as x
abbrev pub invariant-loop-x : goal.invariant-loop-x
invariant-loop-x g l = record {
  values : map g.T.Number.value l.values.items ≡ values_by (half_up l.self.width) (l.y * half_up l.self.width + l.x)
      (λ x y. value_at (grid_of l.self) (2 * x) (2 * y));
  count : vec_len l.values ≡ l.y * half_up l.self.width + l.x;
  room : vec_capacity l.values ≡ vec_capacity l.fn.values;
}
