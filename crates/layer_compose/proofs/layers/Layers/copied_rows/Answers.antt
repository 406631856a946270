use Rattle.std.proofs.Common.{◌*◌, ◌+◌, ◌-◌, ◌≤◌, ℕ, arith, refl}
use Rattle.std.proofs.lemmas.Nat.{mul-le}
use Rattle.layer_compose.proofs.CodedRows.{row_below}
use Rattle.layer_compose.proofs.layers.Layers.copied_rows.Goals as goal

pub loop-row-preserved : goal.loop-row-preserved
loop-row-preserved c =
    let room = c.requires.room in
    let row : ℕ = c.loop-row.row in
    let width : ℕ = 3 * c.args.self.now.width in
    let within : width * row ≤ width * c.args.count = mul-le width row width c.args.count (omega arith) (omega arith) in
    row_below c.args.self.now c.args.y row (width * row) (width * row + width - width * row) c.loop-row.out c.copied_row.new.out refl
    c.loop-row.invariant c.copied_row.ensures (omega arith)

pub copied_row-requires-clause-behind : goal.copied_row-requires-clause-behind
copied_row-requires-clause-behind c = c.requires.behind c.loop-row.row (omega (arith, c.loop-row-test.true))
