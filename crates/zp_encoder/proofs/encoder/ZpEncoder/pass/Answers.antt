use Rattle.std.proofs.Common.{refl, sym, ap, ◌∙◌}
use Rattle.zp_decoder.specs.Decision.{Pass, pass_split}
use Rattle.zp_encoder.proofs.Writing.{wrote_on, other_bit}
use Rattle.zp_encoder.proofs.encoder.ZpEncoder.pass.Goals as goal

pub returns-clause-wrote : goal.returns-clause-wrote
returns-clause-wrote c decisions =
    wrote_on decisions Pass c.args.bit 0 c.pass_split.result _ c.args.self.now c.write.new.self
    (record {
      form_of = tt;
      more = other_bit c.args.bit;
      split = ap pass_split (sym c.in_ok-a.ensures.start.0) ∙ sym c.pass_split.ensures;
      codes = c.in_ok-write.ensures.codes;
      table = c.in_ok-write.ensures.table;
      state_is = refl;
    })
