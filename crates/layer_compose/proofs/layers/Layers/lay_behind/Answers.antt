use Rattle.std.proofs.Common.{◌≡◌, ◌*◌, ◌/◌, ◌<◌, ◌≤◌, ℕ, length, rules, sym, subst}
use Rattle.std.specs.Option.{IfSome}
use Rattle.layer_compose.proofs.Reducing.{reduction_some, row_in_layer, wide_enough}
use Rattle.layer_compose.proofs.CodedRows.{row_behind}
use Rattle.layer_compose.proofs.layers.Layers.lay_behind.Goals as goal

pub lay_layer-requires-clause-by : goal.lay_layer-requires-clause-by
lay_layer-requires-clause-by c =
    let P : ℕ → Type 0 = λ k. 0 < k in
    subst P (sym c.requires.back) (reduction_some c.args.self.now c.args.self.now.back)

pub lay_layer-requires-clause-row : goal.lay_layer-requires-clause-row
lay_layer-requires-clause-row c =
    let P : ℕ → Type 0 = λ k. IfSome c.args.self.now.back (λ picture. c.args.y / k < picture.height) in
    subst P (sym c.requires.back) (row_in_layer c.args.self.now c.args.self.now.back c.args.y c.requires.drawable.back c.requires.row)

pub lay_layer-requires-clause-columns : goal.lay_layer-requires-clause-columns
lay_layer-requires-clause-columns c =
    let P : ℕ → Type 0 = λ k. IfSome c.args.self.now.back (λ picture. c.args.self.now.width ≤ picture.width * k) in
    subst P (sym c.requires.back) (wide_enough c.args.self.now c.args.self.now.back c.requires.drawable.back)

pub returns : goal.returns
returns c =
    let size : length c.lay_layer.new.out ≡ 3 * c.args.self.now.width = search rules in
    row_behind c.args.self.now c.args.y c.args.by.back c.args.out.now c.lay_layer.new.out c.requires.back c.lay_layer.ensures size
