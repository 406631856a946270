use Rattle.std.proofs.Common.{◌≡◌, ◌*◌, ◌+◌, arith, ap, ◌∙◌}
use Rattle.layer_compose.specs.Drawing.{white_count}
use Rattle.layer_compose.proofs.Summing.{sum_of_white, all_white, others_white}
use Rattle.layer_compose.proofs.layers.Layers.sum_without_colours.Goals as goal
use Rattle.layer_compose.proofs.layers.Layers.sum_without_colours.Goals.{in-Some, in-None}

pub returns : goal.returns
returns c =
    let area : c.from.result * c.from-2.result ≡ c.args.self.now.width * c.args.self.now.height =
    ap (λ w. w * c.from-2.result) c.from.ensures ∙ ap (λ h. c.args.self.now.width * h) c.from-2.ensures in
    let whites : c.match-self.black + white_count c.args.self.now ≡ c.args.self.now.width * c.args.self.now.height =
    elim c.match-self.branch [
      | in-Some w ↦
          let all = others_white c.args.self.now w.in-Some.mask w.in-Some.is c.requires.drawable.mask w.black.ensures.whole in
          ap (λ n. n + white_count c.args.self.now) (w.black-is ∙ w.from-black.ensures ∙ w.black.ensures.value) ∙ all
      | in-None w ↦
          let all = all_white c.args.self.now w.in-None.is in
          let none : c.match-self.black ≡ 0 = w.black-is in
          omega arith
    ] in
    let sum = sum_of_white c.args.self.now c.requires.front c.requires.back in
    omega arith
