use Rattle.std.proofs.Common.{map, sym, subst, ◌∙◌}
use Rattle.std.specs.Arc.{arc_value}
use Rattle.include_graph.specs.Verdicts.{outline_in}
use Rattle.page_decoder.specs.Kinds.{kind_of}
use Rattle.page_decoder.specs.Resolving.{home_of, known_of}
use Rattle.page_decoder.specs.FileReading.{Answers, StandsAt}
use Rattle.page_decoder.specs.FileSteps.{ResolvesBefore}
use Rattle.page_decoder.specs.Kept.{IsReady}
use Rattle.page_decoder.proofs.Beginning.{is_ready}
use Rattle.page_decoder.proofs.Entering.{enter_stops, enter_comes}
use Rattle.page_decoder.proofs.file_reader.FileReader.enter.Goals as goal

pub returns-in-Some-clause-comes : goal.returns-in-Some-clause-comes
returns-in-Some-clause-comes c = λ given rest so f.
    let before = c.args.self.now in
    let it = c.resolve_before.new.self.includes in
    let table = arc_value before.table in
    let home = home_of before.role table c.args.names.now before.file in
    let known = known_of (map outline_in c.args.outlines.now) c.args.results.now in
    subst (λ later. Answers given rest c.in-Some.stop before later) (sym c.resolve_before.ensures.rest)
    (enter_stops given rest c.args.head before it c.args.names.now known so f c.in-Some.stop
    (λ left. subst (λ answer. ResolvesBefore (kind_of c.args.head.id) home known left answer before.includes it) c.in-Some.is
    (c.resolve_before.ensures.resolves table left)))

pub returns-in-None-clause-comes : goal.returns-in-None-clause-comes
returns-in-None-clause-comes c = λ given rest so f.
    let before = c.args.self.now in
    let it = c.resolve_before.new.self.includes in
    let table = arc_value before.table in
    let home = home_of before.role table c.args.names.now before.file in
    let known = known_of (map outline_in c.args.outlines.now) c.args.results.now in
    enter_comes given rest c.args.head before it c.args.names.now known so f
    (λ left. subst (λ answer. ResolvesBefore (kind_of c.args.head.id) home known left answer before.includes it) c.in-None.is
    (c.resolve_before.ensures.resolves table left))
    c.begin.result c.resolve_before.new.self c.begin.new.self c.resolve_before.ensures.rest c.begin.ensures.answer c.begin.ensures.begun
    c.begin.ensures.rest c.begin.ensures.layers

pub begin-requires : goal.begin-requires
begin-requires c =
    let held = c.requires.held in
    let here = subst (λ s. StandsAt held.given s c.args.self.now) c.requires.before held.stands in
    subst (λ reader. IsReady (kind_of c.args.head.id) c.args.head.size reader.kept.layers) (sym c.resolve_before.ensures.rest)
    (is_ready held.given c.args.head c.args.self.now here)
