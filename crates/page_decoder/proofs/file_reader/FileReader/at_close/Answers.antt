use Rattle.std.proofs.Common.{sym, subst}
use Rattle.page_decoder.specs.FileReading.{Answers, IsClosing}
use Rattle.page_decoder.proofs.FileEnds.{waits_here, breaks_here}
use Rattle.page_decoder.proofs.file_reader.FileReader.at_close.Goals as goal

pub returns-in-Waits-clause-answers : goal.returns-in-Waits-clause-answers
returns-in-Waits-clause-answers c = λ given rest so k. waits_here given rest c.args.behind c.args.self.now k c.in-Waits.is

pub returns-in-Breaks-clause-answers : goal.returns-in-Breaks-clause-answers
returns-in-Breaks-clause-answers c = λ given rest so k.
    subst (λ answer. Answers given rest answer c.args.self.now c.args.self.now) (sym c.refused.ensures)
    (breaks_here given rest c.args.behind c.args.self.now k c.in-Breaks.kind c.in-Breaks.offset c.in-Breaks.is)

pub returns-in-Over-clause-answers : goal.returns-in-Over-clause-answers
returns-in-Over-clause-answers c = λ given rest so k.
    c.at_form_end.ensures.answers given rest so (subst (λ behind. IsClosing given rest behind c.args.self.now) c.in-Over.is k)
