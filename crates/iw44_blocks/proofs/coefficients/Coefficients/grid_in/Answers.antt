use Rattle.std.proofs.Common.{◌≡◌, ◌*◌, ◌∙◌, map, ap, sym, arith}
use Rattle.iw44_blocks.specs.Plane.{Plane, coefficient_at}
use Rattle.iw44_blocks.specs.Lattice.{values_by}
use Rattle.iw44_blocks.proofs.RowsOfValues.{full_values}
use Rattle.iw44_blocks.proofs.coefficients.Coefficients.grid_in.Goals as goal

pub of-requires : goal.of-requires
of-requires g c =
    let width = ap (λ (p : Plane). p.width) c.self.view_is in
    let height = ap (λ (p : Plane). p.height) c.self.view_is in
    let all : c.loop-y.y ≡ c.self.inside.rows = omega arith in
    full_values c.self.inside.columns c.self.inside.rows c.loop-y.y (coefficient_at c.args.self.now) (map g.T.Number.value c.loop-y.values.items)
    c.self.invariant.plane.some c.self.invariant.plane.fits all
    (c.loop-y.invariant.values ∙ ap (λ w. values_by w (c.loop-y.y * w) (coefficient_at c.args.self.now)) (sym width))
