use Rattle.layer_compose.proofs.RowLists.{row_is}
use Rattle.layer_compose.proofs.CodedRows.{upright_row}
use Rattle.layer_compose.proofs.layers.Layers.row.Goals as goal

pub returns-in-Upright : goal.returns-in-Upright
returns-in-Upright c = upright_row c.args.self.now c.args.y c.upright_rows.new.out c.in-Upright.is c.upright_rows.ensures

pub returns-in-Right : goal.returns-in-Right
returns-in-Right c = row_is c.args.self.now c.args.y c.drawing_width.result c.row_by_steps.new.out c.drawing_width.ensures.value c.row_by_steps.ensures
