use Rattle.std.proofs.Common.{◌≡◌, ℕ, arith, subst}
use Rattle.layer_compose.specs.Laying.{Lays, in_span, channel_of}
use Rattle.layer_compose.proofs.colours.Colour.lay_run.Goals as goal

pub returns : goal.returns
returns c =
    let order = c.requires.order in
    let all : c.loop-at.at ≡ c.args.to = omega (arith, c.loop-at.auto.at-end order) in
    let P : ℕ → Type 0 = λ to. Lays (in_span c.args.from to) (λ p channel. channel_of c.args.self channel) c.args.out.now c.loop-at.out in
    subst P all c.loop-at.invariant
