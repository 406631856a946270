use Rattle.std.proofs.Common.{◌++◌, ap, ◌∙◌}
use Rattle.viewer_run.proofs.Informing.{report_whole, report_fault}
use Rattle.viewer_run.proofs.info.info_of.Goals as goal

pub returns-in_default-clause-lines : goal.returns-in_default-clause-lines
returns-in_default-clause-lines c =
    (report_whole c.args.bytes.now c.args.name.now c.in_ok-lines.lines.items c.headings.new.walker c.args.end c.finish.result c.in_ok-lines.ensures
    c.finish.ensures.ends c.in_default.not-Broken).0

pub returns-in_default-clause-refused : goal.returns-in_default-clause-refused
returns-in_default-clause-refused c =
    (report_whole c.args.bytes.now c.args.name.now c.in_ok-lines.lines.items c.headings.new.walker c.args.end c.finish.result c.in_ok-lines.ensures
    c.finish.ensures.ends c.in_default.not-Broken).1

pub returns-clause-lines : goal.returns-clause-lines
returns-clause-lines c =
    (report_fault c.args.bytes.now c.args.name.now c.in_ok-lines.lines.items c.in_ok-line.line.items c.extend_from_slice.new.self.items c.headings.new.walker
    c.args.end c.finish.result c.in-Broken.kind c.in-Broken.offset c.in_ok-lines.ensures c.finish.ensures.ends c.in-Broken.is c.in_ok-line.ensures
    (c.in_ok-extend_from_slice.ensures.items ∙ ap (λ l. c.in_ok-lines.lines.items ++ l) c.as_slice.ensures.value)).0

pub returns-clause-refused : goal.returns-clause-refused
returns-clause-refused c =
    (report_fault c.args.bytes.now c.args.name.now c.in_ok-lines.lines.items c.in_ok-line.line.items c.extend_from_slice.new.self.items c.headings.new.walker
    c.args.end c.finish.result c.in-Broken.kind c.in-Broken.offset c.in_ok-lines.ensures c.finish.ensures.ends c.in-Broken.is c.in_ok-line.ensures
    (c.in_ok-extend_from_slice.ensures.items ∙ ap (λ l. c.in_ok-lines.lines.items ++ l) c.as_slice.ensures.value)).1
