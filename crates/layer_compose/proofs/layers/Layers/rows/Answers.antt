use Rattle.layer_compose.proofs.CodedRows.{upright_rows}
use Rattle.layer_compose.proofs.layers.Layers.rows.Goals as goal

pub returns-in-Upright : goal.returns-in-Upright
returns-in-Upright c = upright_rows c.args.self.now c.args.from c.args.count c.upright_rows.new.out c.in-Upright.is c.upright_rows.ensures
