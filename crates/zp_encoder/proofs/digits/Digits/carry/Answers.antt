use Rattle.std.proofs.lemmas.Result.{IfOk-weaker}
use Rattle.std.proofs.Common.{true}
use Rattle.zp_encoder.specs.Digits.{Settles, Carries}
use Rattle.zp_encoder.proofs.DigitLemmas.{carries}
use Rattle.zp_encoder.proofs.digits.Digits.carry.Goals as goal

pub returns-then-raised : goal.returns-then-raised
returns-then-raised c =
    let settled = λ (_ : Unit {0}). Settles true c.args.self.now c.settle.new.self in
    let carried = λ (_ : Unit {0}). Carries true c.args.self.now c.settle.new.self in
    let carry = carries c.args.self.now c.settle.new.self (c.requires.raisable c.if-raised.true) c.requires.room in
    rw c.if-raised.true (IfOk-weaker c.settle.result settled carried (λ _. carry) c.settle.ensures)
