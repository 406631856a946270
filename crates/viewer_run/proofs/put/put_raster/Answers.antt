use Rattle.std.proofs.Common.{◌≡◌, ◌++◌, [], refl, ap, sym, ◌∙◌, subst}
use Rattle.std.proofs.lemmas.List.{append-nil}
use Rattle.std.proofs.lemmas.Result.{err_from_is_err_and}
use Rattle.djvu_outside.specs.Reading.{GrowsWithin}
use Rattle.layer_compose.specs.Drawing.{raster_of, samples_of, drawing_width, drawing_height}
use Rattle.viewer_run.specs.Rasters.{raster_head, raster_text}
use Rattle.djvu_outside.specs.Parts.{Delivers}
use Rattle.djvu_outside.proofs.Lemmas.{grows_within_more, delivers_after}
use Rattle.viewer_run.proofs.put.put_raster.Goals as goal

pub returns-in_err-head-clause-taken : goal.returns-in_err-head-clause-taken
returns-in_err-head-clause-taken g c before given =
    let p = err_from_is_err_and c.from_residual.result c.from_residual.ensures.1 in
    rw p.1 (before, given, ([], raster_text (raster_of c.args.layers.now), refl, sym (append-nil before)))

pub returns-in_err-put_text-clause-taken : goal.returns-in_err-put_text-clause-taken
returns-in_err-put_text-clause-taken g c before given =
    let layers = c.args.layers.now in
    let took = c.in_err-put_text.ensures.taken before given in
    let p = err_from_is_err_and c.from_residual-in_err-put_text.result c.from_residual-in_err-put_text.ensures.1 in
    let head : c.as_slice.result.now ≡ raster_head (drawing_width layers) (drawing_height layers) =
    c.as_slice.ensures.value ∙ c.in_ok-head.ensures
    ∙ ap (λ w. raster_head w c.drawing_height.result) c.drawing_width.ensures.value
    ∙ ap (raster_head (drawing_width layers)) c.drawing_height.ensures.value in
    rw p.1 (
      took.0,
      took.1,
      grows_within_more before (raster_head (drawing_width layers) (drawing_height layers)) (samples_of layers) took.0
          (subst (λ t. GrowsWithin before t took.0) head took.2),
    )

pub returns-clause-taken : goal.returns-clause-taken
returns-clause-taken g c before given =
    let layers = c.args.layers.now in
    let took = c.in_ok-put_text.ensures.taken before given in
    let rows = c.put_rows.ensures.taken took.0 took.1 in
    let head : c.as_slice.result.now ≡ raster_head (drawing_width layers) (drawing_height layers) =
    c.as_slice.ensures.value ∙ c.in_ok-head.ensures
    ∙ ap (λ w. raster_head w c.drawing_height.result) c.drawing_width.ensures.value
    ∙ ap (raster_head (drawing_width layers)) c.drawing_height.ensures.value in
    let all : c.as_slice.result.now ++ samples_of layers ≡ raster_text (raster_of layers) = ap (λ h. h ++ samples_of layers) head in (
      rows.0,
      rows.1,
      subst (λ t. Delivers c.put_rows.result before t rows.0) all
          (delivers_after c.put_rows.result before c.as_slice.result.now took.0 _ rows.0 took.2 rows.2),
    )
