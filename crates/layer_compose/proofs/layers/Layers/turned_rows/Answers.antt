use Rattle.std.proofs.Common.{◌≡◌, ◌*◌, ◌+◌, ◌-◌, ◌≤◌, ℕ, take, arith, ap, sym, ◌∙◌}
use Rattle.std.proofs.lemmas.Nat.{mul-le}
use Rattle.layer_compose.specs.Drawing.{drawing_width}
use Rattle.layer_compose.proofs.RowLists.{no_rows, row_put}
use Rattle.layer_compose.proofs.layers.Layers.turned_rows.Goals as goal

pub loop-row-init : goal.loop-row-init
loop-row-init c =
    let none : 3 * drawing_width c.args.self.now * 0 ≡ 0 = omega arith in
    ap (λ n. take n c.args.out.now) none ∙ sym (no_rows c.args.self.now c.args.from)

pub loop-row-preserved : goal.loop-row-preserved
loop-row-preserved c =
    let room = c.requires.room in
    let row : ℕ = c.loop-row.row in
    let width : ℕ = 3 * drawing_width c.args.self.now in
    let length : ℕ = 3 * c.drawing_width.result in
    let within : width * row ≤ width * c.args.count = mul-le width row width c.args.count (omega arith) (omega arith) in
    let start : length * row ≡ width * row = ap (λ n. 3 * n * row) c.drawing_width.ensures.value in
    row_put c.args.self.now c.args.from row (length * row) (length * row + length - length * row) c.loop-row.out c.row.new.out start c.loop-row.invariant c.row.ensures (omega arith)
