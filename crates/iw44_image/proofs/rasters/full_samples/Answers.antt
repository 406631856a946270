use Rattle.std.proofs.Common.{◌≡◌, ℕ, ◌*◌, ◌<◌, ap, ◌∙◌, sym, subst}
use Rattle.std.specs.Prelude.{IfOk, false}
use Rattle.iw44_blocks.specs.Lattice.{Lattice, values_by}
use Rattle.iw44_blocks.specs.Plane.{grid_of}
use Rattle.iw44_lifting.specs.Lift.{lifted}
use Rattle.iw44_image.specs.Samples.{plane_samples}
use Rattle.iw44_image.specs.Rasters.{shared_sample}
use Rattle.iw44_image.proofs.Painting.{width_stays, height_stays}
use Rattle.iw44_image.proofs.rasters.full_samples.Goals as goal

pub grid_samples-requires-clause-columns : goal.grid_samples-requires-clause-columns
grid_samples-requires-clause-columns c n h =
    let grid = grid_of c.args.plane.now in
    let same : c.inverse_in.new.grid ≡ lifted 1 grid = c.inverse_in.ensures.lifted ∙ ap (λ (g : Lattice). lifted 1 g) c.in_ok-grid.ensures in
    let width = ap (λ (g : Lattice). g.width) same ∙ width_stays false grid in
    subst (λ (w : ℕ). n < w) (sym width) (subst (λ (w : ℕ). n < w) c.width-width.ensures.width h)

pub grid_samples-requires-clause-rows : goal.grid_samples-requires-clause-rows
grid_samples-requires-clause-rows c n h =
    let grid = grid_of c.args.plane.now in
    let same : c.inverse_in.new.grid ≡ lifted 1 grid = c.inverse_in.ensures.lifted ∙ ap (λ (g : Lattice). lifted 1 g) c.in_ok-grid.ensures in
    let height = ap (λ (g : Lattice). g.height) same ∙ height_stays false grid in
    subst (λ (w : ℕ). n < w) (sym height) (subst (λ (w : ℕ). n < w) c.height-height.ensures.height h)

pub returns : goal.returns
unfolding plane_samples
returns c =
    let plane = c.args.plane.now in
    let grid = grid_of plane in
    let same : c.inverse_in.new.grid ≡ lifted 1 grid = c.inverse_in.ensures.lifted ∙ ap (λ (g : Lattice). lifted 1 g) c.in_ok-grid.ensures in
    let w = c.width-width.result in
    let h = c.height-height.result in
    let by_grid = subst (λ (g : Lattice). IfOk c.grid_samples.result (λ samples. samples.items ≡ values_by w (w * h) (shared_sample false g)))
    same c.grid_samples.ensures in
    let by_width = subst (λ (n : ℕ). IfOk c.grid_samples.result (λ samples. samples.items ≡ values_by n (n * h) (shared_sample false (lifted 1 grid))))
    c.width-width.ensures.width by_grid in
    subst (λ (n : ℕ). IfOk c.grid_samples.result (λ samples. samples.items ≡ values_by plane.width (plane.width * n) (shared_sample false (lifted 1 grid))))
    c.height-height.ensures.height by_width
