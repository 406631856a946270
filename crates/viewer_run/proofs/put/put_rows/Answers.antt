use Rattle.std.proofs.Common.{◌≡◌, ℕ, ◌+◌, ◌-◌, ◌++◌, ◌≤◌, ◌*◌, List, [], Some, refl, ap, sym, ◌∙◌, subst, arith}
use Rattle.std.proofs.lemmas.Result.{err_from_is_err_and}
use Rattle.std.proofs.lemmas.List.{append_assoc, append-nil}
use Rattle.djvu_outside.specs.Reading.{GrowsWithin}
use Rattle.layer_compose.specs.Drawing.{samples_of, rows_of, drawing_height}
use Rattle.djvu_outside.proofs.Lemmas.{grows_after}
use Rattle.viewer_run.proofs.Rows.{rows_more, rows_left, side_most, block_fits}
use Rattle.viewer_run.proofs.put.put_rows.Goals as goal

pub returns-in_err-block-clause-taken : goal.returns-in_err-block-clause-taken
returns-in_err-block-clause-taken g c before given =
    let p = err_from_is_err_and c.from_residual.result c.from_residual.ensures.1 in
    rw p.1 (before, given, ([], samples_of c.args.layers.now, refl, sym (append-nil before)))

pub overflow_mul-now : goal.overflow_mul-now
overflow_mul-now g c =
    let side = c.drawing_width-row.ensures.side in
    let columns : c.drawing_width-row.result ≤ 65535 =
    side_most c.drawing_width-row.result c.args.layers.now.width c.args.layers.now.height side c.requires.most_columns c.requires.most_rows in
    omega (arith, block_fits c.min-now.result c.max-at_once.result (3 * c.drawing_width-row.result) (omega arith) (omega arith) c.max-at_once.ensures)

pub returns-in_err-put_block-clause-taken : goal.returns-in_err-put_block-clause-taken
returns-in_err-put_block-clause-taken g c before given =
    let layers = c.args.layers.now in
    let law = c.rows_make_the_raster.ensures in
    let done : ℕ = c.loop-done.done in
    let now : ℕ = c.min-now.result in
    let height : ℕ = drawing_height layers in
    let left : ℕ = height - (done + now) in
    let part : List ℕ = rows_of layers 0 done in
    let text : List ℕ = rows_of layers done now in
    let rest : List ℕ = rows_of layers (done + now) left in
    let all : part ++ (text ++ rest) ≡ samples_of layers = rows_left layers (law.joined layers) done now left (omega arith) (law.all layers) in
    let took = c.in_err-put_block.ensures.taken (before ++ part) (c.loop-done.invariant.put before given) in
    let p = err_from_is_err_and c.from_residual-in_err-put_block.result c.from_residual-in_err-put_block.ensures.1 in
    rw p.1 (took.0, took.1, subst (λ t. GrowsWithin before t took.0) all (grows_after before part text rest took.0 took.2))

pub loop-done-preserved : goal.loop-done-preserved
loop-done-preserved g c =
    let layers = c.args.layers.now in
    let law = c.rows_make_the_raster.ensures in
    let done : ℕ = c.loop-done.done in
    let now : ℕ = c.min-now.result in
    let part : List ℕ = rows_of layers 0 done in
    let text : List ℕ = rows_of layers done now in
    record {
      within = omega arith;
      room = c.loop-done.invariant.room;
      put = λ before given.
          let took = c.in_ok-put_block.ensures.taken (before ++ part) (c.loop-done.invariant.put before given) in
          took.1 ∙ ap Some (took.2 ∙ append_assoc before part text ∙ ap (λ l. before ++ l) (rows_more layers (law.joined layers) done now));
      faults = c.in_ok-put_block.ensures.stops ∙ c.loop-done.invariant.faults;
    }
