use Rattle.std.proofs.Common.{◌<◌, refl, sym, ap, subst, ◌∙◌, arith}
use Rattle.zp_decoder.specs.Decision.{most_bits}
use Rattle.zp_decoder.proofs.Lemmas.{IsEnough, enough_at_first}
use Rattle.zp_encoder.specs.Codes.{lengthened}
use Rattle.zp_encoder.specs.Encoder.{codes_of}
use Rattle.zp_encoder.proofs.Leading.{lengthened-stop, fewer_steps}
use Rattle.zp_encoder.proofs.standing.Standing.lengthen.Goals as goal

pub loop-self-init : goal.loop-self-init
unfolding most_bits
loop-self-init c = record {
  sound = c.requires.sound;
  below = c.requires.below;
  steps = (most_bits, refl, enough_at_first c.args.self.now.a c.requires.below);
}

pub loop-self-smaller : goal.loop-self-smaller
loop-self-smaller c = omega (arith, c.in_ok-lengthen_by_one.ensures.a, c.loop-self.invariant.below, c.loop-self-test.true)

pub loop-self-preserved : goal.loop-self-preserved
loop-self-preserved c =
    let kept = c.loop-self.invariant in
    let done = c.in_ok-lengthen_by_one.ensures in
    let next = fewer_steps kept.steps.0 (codes_of c.loop-self.self) (lengthened most_bits (codes_of c.args.self.now)) c.loop-self-test.true kept.steps.1
    kept.steps.2 in
    record {
      sound = done.sound;
      below = omega (arith, done.a, kept.below);
      steps = (next.most, ap (lengthened next.most) done.codes ∙ next.same, subst (IsEnough next.most) (sym done.a) next.enough);
    }

pub returns : goal.returns
returns c =
    let kept = c.loop-self.invariant in
    let low : c.loop-self.self.a < 0x8000 = omega (arith, c.loop-self-test.false) in
    record {
      ready = record { sound = kept.sound; low = low };
      reached = sym (lengthened-stop kept.steps.0 (codes_of c.loop-self.self) low) ∙ kept.steps.1;
    }
