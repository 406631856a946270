use Rattle.std.proofs.Common.{◌≡◌, rules, length}
use Rattle.std.proofs.lemmas.List.{with_items_is}
use Rattle.layer_compose.proofs.RowLists.{raster_is}
use Rattle.layer_compose.proofs.layers.Layers.compose.Goals as goal

pub returns : goal.returns
returns c =
    let size : length c.rows.new.out ≡ c.in_ok-samples.samples.len = search rules in
    raster_is c.args.self.now c.drawing_width-width.result c.drawing_height-height.result c.rows.new.out _ c.new.result
    c.drawing_width-width.ensures.value c.drawing_height-height.ensures.value c.rows.ensures (with_items_is c.in_ok-samples.samples c.rows.new.out size) c.new.ensures
