use Rattle.std.proofs.Common.{map, sym, subst}
use Rattle.std.specs.Arc.{arc_value}
use Rattle.include_graph.specs.Verdicts.{outline_in}
use Rattle.page_decoder.specs.declared.decoder.PageStep.TheVariants as step
use Rattle.page_decoder.specs.Resolving.{home_of, known_of}
use Rattle.page_decoder.specs.FileReading.{Answers}
use Rattle.page_decoder.specs.FileSteps.{HasResolved}
use Rattle.page_decoder.proofs.Stopping.{finishes_stop, finishes_all}
use Rattle.page_decoder.proofs.file_reader.FileReader.finish.Goals as goal

pub returns-in-Some-clause-answers : goal.returns-in-Some-clause-answers
returns-in-Some-clause-answers c = λ given rest so f.
    let before = c.args.self.now in
    let it = c.resolve.new.self.includes in
    let table = arc_value before.table in
    let home = home_of before.role table c.args.names.now before.file in
    let known = known_of (map outline_in c.args.outlines.now) c.args.results.now in
    subst (λ after. Answers given rest c.in-Some.stop before after) (sym c.resolve.ensures.rest)
    (finishes_stop given rest before it c.args.names.now known so f c.in-Some.stop
    (λ left. subst (λ answer. HasResolved home known left answer before.includes it) c.in-Some.is (c.resolve.ensures.resolves table left)))

pub returns-in-None-clause-answers : goal.returns-in-None-clause-answers
returns-in-None-clause-answers c = λ given rest so f.
    let before = c.args.self.now in
    let it = c.resolve.new.self.includes in
    let table = arc_value before.table in
    let home = home_of before.role table c.args.names.now before.file in
    let known = known_of (map outline_in c.args.outlines.now) c.args.results.now in
    subst (λ after. Answers given rest step.Finished before after) (sym c.resolve.ensures.rest)
    (finishes_all given rest before it c.args.names.now known so f
    (λ left. subst (λ answer. HasResolved home known left answer before.includes it) c.in-None.is (c.resolve.ensures.resolves table left)))
