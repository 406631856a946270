use Rattle.std.proofs.Common.{refl, sym, ◌∙◌}
use Rattle.page_decoder.proofs.file_reader.FileReader.begin.Goals as goal

pub returns-in-Ok-clause-begun : goal.returns-in-Ok-clause-begun
returns-in-Ok-clause-begun c = λ e. record {
  chunk = record { head = c.args.head; opened = c.in-Ok.opened };
  head_is = refl;
  is = refl;
  opens = λ decoded keeps i. c.in-Ok.ensures.opens decoded keeps (i ∙ sym c.inherited.ensures);
  none_read = c.in-Ok.ensures.decisions;
}
