use Rattle.std.proofs.lemmas.Result.{IfOk-weaker}
use Rattle.std.proofs.Common.{◌≡◌, ◌+◌, ◌<◌, refl, arith}
use Rattle.zp_encoder.specs.Digits.{Appends}
use Rattle.zp_encoder.proofs.DigitLemmas.{appends_run, appends_last}
use Rattle.zp_encoder.proofs.digits.Digits.append.Goals as goal

pub returns-then-byte-eq255 : goal.returns-then-byte-eq255
returns-then-byte-eq255 c =
    rw c.if-byte-eq255.true (IfOk-weaker c.extend_run.result
    (λ _. (c.extend_run.new.self.settled.items ≡ c.args.self.now.settled.items) × (c.extend_run.new.self.last ≡ c.args.self.now.last) ×
    (c.extend_run.new.self.run ≡ c.args.self.now.run + 1))
    (λ _. Appends 255 c.args.self.now c.extend_run.new.self)
    (λ _ e. appends_run c.args.self.now c.extend_run.new.self c.requires e.0 e.1 e.2) c.extend_run.ensures)

pub returns : goal.returns
returns c =
    let small : c.args.byte < 255 = omega arith in
    appends_last c.args.self.now c.settle.new.self _ c.args.byte small c.in_ok-settle.ensures refl refl refl
