use Rattle.std.proofs.Common.{◌≡◌, ℕ, ◌*◌, ◌/◌, ◌<◌, ℤ, List, ap, ◌∙◌, sym, subst, arith}
use Rattle.std.specs.Prelude.{IfOk, true}
use Rattle.iw44_blocks.specs.Lattice.{Lattice, IsWithin, values_by, half_up, quarter}
use Rattle.iw44_blocks.specs.Plane.{grid_of}
use Rattle.iw44_blocks.proofs.Lemmas.{quarter_within}
use Rattle.iw44_lifting.specs.Lift.{lifted, quarter_lifted}
use Rattle.iw44_image.specs.Samples.{plane_samples}
use Rattle.iw44_image.specs.Rasters.{shared_sample}
use Rattle.iw44_image.proofs.Painting.{width_stays, height_stays, half_places}
use Rattle.iw44_image.proofs.rasters.half_samples.Goals as goal

pub inverse_quarter-requires-clause-small : goal.inverse_quarter-requires-clause-small
inverse_quarter-requires-clause-small c =
    let grid = grid_of c.args.plane.now in
    subst (IsWithin 32767) (sym c.in_ok-grid.ensures) (quarter_within 32767 grid (c.small_planes.ensures 32767 c.args.plane.now c.requires.small))

pub grid_samples-requires-clause-columns : goal.grid_samples-requires-clause-columns
grid_samples-requires-clause-columns c n h =
    let grid = grid_of c.args.plane.now in
    let same : c.inverse_quarter.new.grid ≡ quarter (lifted 2 grid) =
    c.inverse_quarter.ensures.lifted ∙ ap quarter_lifted c.in_ok-grid.ensures ∙ sym (c.even_places_alone.ensures.all grid) in
    let width = ap (λ (g : Lattice). g.width) same ∙ ap half_up (width_stays true grid) in
    let inside : n < c.args.plane.now.width = subst (λ (w : ℕ). n < w) c.width-width.ensures.width h in
    subst (λ (w : ℕ). n / 2 < w) (sym width) (omega arith)

pub grid_samples-requires-clause-rows : goal.grid_samples-requires-clause-rows
grid_samples-requires-clause-rows c n h =
    let grid = grid_of c.args.plane.now in
    let same : c.inverse_quarter.new.grid ≡ quarter (lifted 2 grid) =
    c.inverse_quarter.ensures.lifted ∙ ap quarter_lifted c.in_ok-grid.ensures ∙ sym (c.even_places_alone.ensures.all grid) in
    let height = ap (λ (g : Lattice). g.height) same ∙ ap half_up (height_stays true grid) in
    let inside : n < c.args.plane.now.height = subst (λ (w : ℕ). n < w) c.height-height.ensures.height h in
    subst (λ (w : ℕ). n / 2 < w) (sym height) (omega arith)

pub returns : goal.returns
unfolding plane_samples
returns c =
    let plane = c.args.plane.now in
    let grid = grid_of plane in
    let whole = lifted 2 grid in
    let same : c.inverse_quarter.new.grid ≡ quarter whole =
    c.inverse_quarter.ensures.lifted ∙ ap quarter_lifted c.in_ok-grid.ensures ∙ sym (c.even_places_alone.ensures.all grid) in
    let w = c.width-width.result in
    let h = c.height-height.result in
    let by_grid = subst (λ (g : Lattice). IfOk c.grid_samples.result (λ samples. samples.items ≡ values_by w (w * h) (shared_sample true g)))
    same c.grid_samples.ensures in
    let by_width = subst (λ (n : ℕ). IfOk c.grid_samples.result (λ samples. samples.items ≡ values_by n (n * h) (shared_sample true (quarter whole))))
    c.width-width.ensures.width by_grid in
    let by_size = subst (λ (n : ℕ). IfOk c.grid_samples.result (λ samples. samples.items ≡ values_by plane.width (plane.width * n)
    (shared_sample true (quarter whole)))) c.height-height.ensures.height by_width in
    subst (λ (l : List ℤ). IfOk c.grid_samples.result (λ samples. samples.items ≡ l))
    (half_places plane.width plane.height whole (width_stays true grid) (height_stays true grid)) by_size
