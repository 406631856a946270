use Rattle.std.proofs.Common.{◌*◌, ◌+◌, ◌-◌, ◌≤◌, ℕ, arith, refl}
use Rattle.std.proofs.lemmas.Nat.{mul-le}
use Rattle.layer_compose.proofs.RowLists.{steps_put}
use Rattle.layer_compose.proofs.layers.Layers.rows_by_steps.Goals as goal

pub loop-row-preserved : goal.loop-row-preserved
loop-row-preserved c =
    let room = c.requires.room in
    let row : ℕ = c.loop-row.row in
    let width : ℕ = 3 * c.args.columns in
    let within : width * row ≤ width * c.args.rows = mul-le width row width c.args.rows (omega arith) (omega arith) in
    steps_put c.args.self.now c.args.step c.args.columns row (width * row) (width * row + width - width * row) c.loop-row.out c.row_by_steps.new.out refl
    c.loop-row.invariant c.row_by_steps.ensures (omega arith)
