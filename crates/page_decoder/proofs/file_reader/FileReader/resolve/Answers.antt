use Rattle.std.proofs.Common.{map, sym, subst}
use Rattle.include_graph.specs.Verdicts.{outline_in}
use Rattle.page_decoder.specs.declared.resolving.Resolution.{Resolution}
use Rattle.page_decoder.specs.declared.resolving.Resolution.TheVariants as resolution
use Rattle.page_decoder.specs.Given.{Home, Known}
use Rattle.page_decoder.specs.PageRead.{Left}
use Rattle.page_decoder.specs.Resolving.{Resolving, home_of, known_of, Answers}
use Rattle.page_decoder.specs.FileSteps.{StopsSo, stop_of}
use Rattle.page_decoder.proofs.file_reader.FileReader.resolve.Goals as goal

stops_so : (home : Home) (known : Known) (left : Left) (answer : Resolution) (it : Resolving) → Answers home known left answer it
    → StopsSo home known left (stop_of answer) it
stops_so home known left resolution.Resolved it a = a
stops_so home known left (resolution.NeedOutline file) it a = a
stops_so home known left (resolution.NeedFile file) it a = a
stops_so home known left (resolution.Refused fault) it a = a
stops_so home known left resolution.OutOfMemory it a = tt

pub returns-clause-resolves : goal.returns-clause-resolves
returns-clause-resolves c = λ table left r.
    let home = home_of c.args.self.now.role table c.args.names.now c.args.self.now.file in
    let known = known_of (map outline_in c.args.outlines.now) c.args.results.now in
    subst (λ stop. StopsSo home known left stop c.resolve-resolution.new.self) (sym c.answer_of.ensures)
    (stops_so home known left c.resolve-resolution.result c.resolve-resolution.new.self (c.resolve-resolution.ensures table left r))
