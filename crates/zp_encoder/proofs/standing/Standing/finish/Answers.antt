use Rattle.std.proofs.Common.{◌≡◌, length, ap, ◌∙◌}
use Rattle.std.proofs.lemmas.Result.{IfOk-weaker}
use Rattle.zp_encoder.specs.Digits.{number_of, digits_of}
use Rattle.zp_encoder.specs.Encoder.{codes_of}
use Rattle.zp_encoder.specs.Codes.{IsAmong}
use Rattle.zp_encoder.proofs.StandingLemmas.{digit_below, digit_raisable, among}
use Rattle.zp_encoder.proofs.standing.Standing.finish.Goals as goal

pub put-requires-clause-below : goal.put-requires-clause-below
put-requires-clause-below c = digit_below c.args.self c.requires.sound

pub put-requires-clause-raisable : goal.put-requires-clause-raisable
put-requires-clause-raisable c = digit_raisable c.args.self c.requires.sound

pub returns-clause-among : goal.returns-clause-among
returns-clause-among c =
    let put = c.in_ok-put.ensures in
    IfOk-weaker c.finish.result (λ bytes. bytes.items ≡ digits_of c.put.new.self) (λ bytes. IsAmong bytes.items (codes_of c.args.self))
    (λ bytes same. among c.args.self bytes.items c.requires (ap number_of same ∙ put.number) (ap length same ∙ put.length)) c.finish.ensures
