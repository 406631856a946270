use Rattle.std.proofs.Common.{sym, ◌∙◌}
use Rattle.jb2_records.specs.declared.purpose.Purpose.TheVariants as purpose
use Rattle.page_decoder.proofs.Laying.{never_waits}
use Rattle.page_decoder.proofs.kept.Kept.close_dictionary.Goals as goal

pub returns-in-NeedBytes-clause-closes : goal.returns-in-NeedBytes-clause-closes
returns-in-NeedBytes-clause-closes g c table head decoded bytes chunks keeps reads =
    let fed = c.end.ensures.fed bytes reads.records.fed in
    let answer = c.advance.ensures.answer bytes fed (λ h. let wrong = sym c.in-NeedBytes.is ∙ h in cc) in
    absurd (never_waits purpose.Dictionary table decoded bytes c.args.reader c.end.new.self reads.records c.end.ensures.source c.end.ensures.ended
    c.records_end.ensures.ended (sym c.in-NeedBytes.is ∙ answer))
