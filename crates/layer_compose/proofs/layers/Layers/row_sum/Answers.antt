use Rattle.std.proofs.Common.{◌<◌, ℕ, arith, sym, subst}
use Rattle.layer_compose.specs.Laying.{Covers}
use Rattle.layer_compose.proofs.Reducing.{covers, reduction_some, reduction_most}
use Rattle.layer_compose.proofs.SideSums.{row_by_sides}
use Rattle.layer_compose.proofs.layers.Layers.row_sum.Goals as goal

pub sum_on-front-requires-clause-by : goal.sum_on-front-requires-clause-by
sum_on-front-requires-clause-by c =
    let P : ℕ → Type 0 = λ k. 0 < k in
    subst P (sym c.requires.front) (reduction_some c.args.self.now c.args.self.now.front)

pub sum_on-front-requires-clause-word : goal.sum_on-front-requires-clause-word
sum_on-front-requires-clause-word c =
    let most = reduction_most c.args.self.now c.args.self.now.front in
    omega (arith, most, c.requires.front)

pub sum_on-front-requires-clause-covers : goal.sum_on-front-requires-clause-covers
sum_on-front-requires-clause-covers c = λ x column.
    let P : ℕ → Type 0 = λ k. Covers c.args.self.now.front k x c.args.y in
    subst P (sym c.requires.front) (covers c.args.self.now c.args.self.now.front x c.args.y c.requires.drawable.front column c.requires.row)

pub sum_on-back-requires-clause-by : goal.sum_on-back-requires-clause-by
sum_on-back-requires-clause-by c =
    let P : ℕ → Type 0 = λ k. 0 < k in
    subst P (sym c.requires.back) (reduction_some c.args.self.now c.args.self.now.back)

pub sum_on-back-requires-clause-word : goal.sum_on-back-requires-clause-word
sum_on-back-requires-clause-word c =
    let most = reduction_most c.args.self.now c.args.self.now.back in
    omega (arith, most, c.requires.back)

pub sum_on-back-requires-clause-covers : goal.sum_on-back-requires-clause-covers
sum_on-back-requires-clause-covers c = λ x column.
    let P : ℕ → Type 0 = λ k. Covers c.args.self.now.back k x c.args.y in
    subst P (sym c.requires.back) (covers c.args.self.now c.args.self.now.back x c.args.y c.requires.drawable.back column c.requires.row)

pub returns-clause-sum : goal.returns-clause-sum
returns-clause-sum c =
    let sides = row_by_sides c.args.self.now c.args.y c.args.by.front c.args.by.back c.requires.front c.requires.back in
    omega (arith, sides, c.sum_on-front.ensures.sum, c.sum_on-back.ensures.sum)
