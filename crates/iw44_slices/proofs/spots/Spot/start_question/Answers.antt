use Rattle.std.proofs.Common.{◌≡◌, ◌+◌, ℕ, get_or, min, ◌∙◌, ap, arith}
use Rattle.std.specs.Prelude.{◌==◌, not, if◌then◌else◌}
use Rattle.iw44_slices.proofs.Nearing.{start_inside}
use Rattle.iw44_slices.proofs.Naming.{start_asked}
use Rattle.iw44_slices.proofs.spots.Spot.start_question.Goals as goal

pub bounds-self-self : goal.bounds-self-self
bounds-self-self c =
    let some = c.requires.left in
    let is = start_inside some.1.0 some.1.1 some.0 c.args.self.now c.requires.stage some.1.2 in
    is.bucket

pub returns : goal.returns
returns c slice course plane left =
    let few : c.from.result ≡ min 7 c.args.self.now.left = omega (arith, c.from.ensures, c.min.ensures) in
    let number : 2 + c.with_activity-number.result ≡ 2 +
    (min 7 c.args.self.now.left + (if not (get_or c.args.self.now.active c.args.self.now.bucket 0 == 0) then 8 else 0)) =
    ap (λ (n : ℕ). 2 + n) (c.with_activity-number.ensures
    ∙ ap (λ (n : ℕ). n + (if not (get_or c.args.self.now.active c.args.self.now.bucket 0 == 0) then 8 else 0)) few) in
    start_asked slice course plane c.args.self.now (2 + c.with_activity-number.result) c.requires.stage c.requires.settled number left
