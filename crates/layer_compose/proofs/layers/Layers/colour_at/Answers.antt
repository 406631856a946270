use Rattle.std.proofs.Common.{◌<◌, ℕ, sym, subst}
use Rattle.layer_compose.specs.Laying.{Covers}
use Rattle.layer_compose.proofs.Reducing.{covers, reduction_some}
use Rattle.layer_compose.proofs.layers.Layers.colour_at.Goals as goal

pub in_layer-requires-clause-reduction : goal.in_layer-requires-clause-reduction
in_layer-requires-clause-reduction c =
    let P : ℕ → Type 0 = λ k. 0 < k in
    subst P (sym c.requires.front) (reduction_some c.args.self.now c.args.self.now.front)

pub in_layer-requires-clause-covers : goal.in_layer-requires-clause-covers
in_layer-requires-clause-covers c =
    let P : ℕ → Type 0 = λ k. Covers c.args.self.now.front k c.args.x c.args.y in
    subst P (sym c.requires.front) (covers c.args.self.now c.args.self.now.front c.args.x c.args.y c.requires.drawable.front c.requires.column c.requires.row)

pub in_layer-requires-else-has_pixel-clause-reduction : goal.in_layer-requires-else-has_pixel-clause-reduction
in_layer-requires-else-has_pixel-clause-reduction c =
    let P : ℕ → Type 0 = λ k. 0 < k in
    subst P (sym c.requires.back) (reduction_some c.args.self.now c.args.self.now.back)

pub in_layer-requires-else-has_pixel-clause-covers : goal.in_layer-requires-else-has_pixel-clause-covers
in_layer-requires-else-has_pixel-clause-covers c =
    let P : ℕ → Type 0 = λ k. Covers c.args.self.now.back k c.args.x c.args.y in
    subst P (sym c.requires.back) (covers c.args.self.now c.args.self.now.back c.args.x c.args.y c.requires.drawable.back c.requires.column c.requires.row)
