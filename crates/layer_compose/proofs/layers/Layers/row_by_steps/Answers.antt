use Rattle.std.proofs.Common.{◌≡◌, ◌*◌, ℕ, length, arith, rules, subst}
use Rattle.layer_compose.specs.Drawing.{sample_from_top}
use Rattle.layer_compose.specs.Laying.{Lays, below}
use Rattle.layer_compose.proofs.Laying.{row_whole}
use Rattle.layer_compose.proofs.layers.Layers.row_by_steps.Goals as goal

pub returns : goal.returns
returns c =
    let sample : ℕ → ℕ → ℕ = λ p channel. sample_from_top c.args.self.now (p * c.args.step) c.args.y channel in
    let all : c.loop-x.x ≡ c.args.columns = omega arith in
    let size : length c.loop-x.out ≡ 3 * c.args.columns = search rules in
    let P : ℕ → Type 0 = λ x. Lays (below x) sample c.args.out.now c.loop-x.out in
    row_whole c.args.columns sample c.args.out.now c.loop-x.out (subst P all c.loop-x.invariant) size
