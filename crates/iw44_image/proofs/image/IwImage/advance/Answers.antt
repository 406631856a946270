use Rattle.std.proofs.Common.{ℕ, List, Option, Some, ap, sym, ◌∙◌, subst}
use Rattle.zp_decoder.specs.Decoder.{Decoder}
use Rattle.iw44_image.specs.declared.headers.Header.{Header}
use Rattle.iw44_image.specs.Layer.{Layer}
use Rattle.iw44_image.specs.Image.{Image, Holds, HasSize}
use Rattle.iw44_image.proofs.Looping.{AreAlike, refused_answer, made_answer, where_ok}
use Rattle.iw44_image.proofs.image.IwImage.advance.Goals as goal

pub returns-in-Refused-clause-answers : goal.returns-in-Refused-clause-answers
returns-in-Refused-clause-answers g c = λ layer bytes decisions holds.
    refused_answer c.args.self.now c.in-Refused.kind layer bytes decisions (g.M.Meter.count c.args.meter.now)
    (sym (ap (λ (i : Image). i.stage) c.self.view_is) ∙ c.in-Refused.is) holds

pub returns-in-Some-clause-answers : goal.returns-in-Some-clause-answers
returns-in-Some-clause-answers g c =
    let made = c.make_planes.ensures in
    let alike : AreAlike c.args.self.now c.make_planes.new.self = record {
      table = ap (λ (zp : Decoder). zp.table) made.zp;
      limit = made.limit;
      to_come = made.to_come;
      header = made.header;
    } in
    let makes : (layer : Layer) (bytes : List ℕ) (decisions : ℕ) → Holds layer bytes decisions c.args.self.now →
    Holds layer bytes decisions c.make_planes.new.self =
    where_ok c.make_planes.result (sym c.is_err.ensures.value ∙ c.if-is_err.false) made.holds in
    made_answer c.step.result c.in-Some.answer c.args.self.now c.make_planes.new.self c.steps.self c.step.new.self (g.M.Meter.count c.args.meter.now)
    (g.M.Meter.count c.steps.meter) (g.M.Meter.count c.step.new.meter) alike makes c.in-Some.is c.steps.invariant c.step.ensures.steps

pub returns-in-Some-clause-sized : goal.returns-in-Some-clause-sized
returns-in-Some-clause-sized g c = λ width height is.
    subst (λ (o : Option Header). HasSize width height o c.step.new.self.header) (c.steps.invariant.alike.header ∙ c.make_planes.ensures.header)
    (c.step.ensures.stepped.sized width height (c.in-Some.is ∙ ap Some is))
