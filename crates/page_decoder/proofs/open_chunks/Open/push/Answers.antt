use Rattle.std.proofs.Common.{◌≡◌, ℕ, ◌-◌, ◌≤◌, min, length, take, subst, arith, length-take, ◌∙◌}
use Rattle.page_decoder.specs.Opened.{IsRunning}
use Rattle.page_decoder.proofs.open_chunks.Open.push.Goals as goal

pub push-requires : goal.push-requires
push-requires c =
    let room : length (take c.min-count.result c.args.piece.now) ≤ c.self.inside.left =
    omega (arith, length-take c.min-count.result c.args.piece.now, c.min-count.ensures) in
    record { to_come = c.self.inside.left; running = c.self.invariant; room = room }

pub invariant_of-self : goal.invariant_of-self
invariant_of-self c = c.in_err-push.ensures.err c.self.inside.left c.self.invariant

pub invariant_of-self-2 : goal.invariant_of-self-2
invariant_of-self-2 c =
    let count : length (take c.min-count.result c.args.piece.now) ≡ c.min-count.result =
    omega (arith, length-take c.min-count.result c.args.piece.now, c.min-count.ensures) in
    subst (λ (n : ℕ). IsRunning (c.self.inside.left - n) c.push.new.self) count
    (c.in_ok-push.ensures.running c.self.inside.left c.self.invariant)
