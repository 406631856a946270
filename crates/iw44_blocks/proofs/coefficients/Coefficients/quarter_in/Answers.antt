use Rattle.std.proofs.Common.{◌≡◌, ◌*◌, ◌∙◌, map, ap, sym, arith}
use Rattle.iw44_blocks.specs.Plane.{Plane, grid_of}
use Rattle.iw44_blocks.specs.Lattice.{value_at, values_by, half_up}
use Rattle.iw44_blocks.proofs.EvenPlaces.{quarter_valid}
use Rattle.iw44_blocks.proofs.coefficients.Coefficients.quarter_in.Goals as goal

pub of-requires : goal.of-requires
of-requires g c =
    let width = ap (λ (p : Plane). p.width) c.self.view_is in
    let across : c.half_up-width.result ≡ half_up c.args.self.now.width = c.half_up-width.ensures ∙ ap half_up width in
    let all : c.loop-y.y ≡ c.half_up-height.result = omega arith in
    quarter_valid c.self.inside.columns c.self.inside.rows c.half_up-width.result c.half_up-height.result c.loop-y.y
    (λ x y. value_at (grid_of c.args.self.now) (2 * x) (2 * y))
    (map g.T.Number.value c.loop-y.values.items) c.self.invariant.plane.some c.self.invariant.plane.fits
    c.half_up-width.ensures c.half_up-height.ensures all
    (c.loop-y.invariant.values ∙ ap (λ n. values_by n (c.loop-y.y * n) (λ x y. value_at (grid_of c.args.self.now) (2 * x) (2 * y))) (sym across))
