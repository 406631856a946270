use Rattle.std.proofs.Common.{◌≡◌, List, ℕ, take, drop, sym, ap, ◌∙◌, subst}
use Rattle.page_decoder.specs.declared.file_reader.FileReader.{FileReader}
use Rattle.iff_chunks.specs.Told.{Walking}
use Rattle.page_decoder.specs.FileSteps.{origin_with, counted_with}
use Rattle.page_decoder.specs.FileReading.{IsWalking, StandsAt, IsTold}
use Rattle.page_decoder.proofs.Further.{Grows}
use Rattle.page_decoder.proofs.Coming.{data_on}
use Rattle.page_decoder.proofs.Telling.{told_next}
use Rattle.page_decoder.proofs.Answering.{comes_same}
use Rattle.std.specs.Arc.{arc_value}
use Rattle.page_decoder.specs.Resolving.{home_of}
use Rattle.page_decoder.proofs.file_reader.FileReader.walk.Goals as goal

abbrev counted_so : Walking → FileReader → List ℕ → FileReader
counted_so walker reader taken = record reader {
  walker = walker;
  origin = origin_with reader.arrived taken reader.origin;
  arrived = counted_with reader.arrived taken;
}

pub returns-clause-comes : goal.returns-clause-comes
returns-clause-comes g c before given is stands =
    let reader : FileReader = c.args.self.now in
    let walking : IsWalking before reader = subst (λ s. StandsAt before s reader) c.requires.walking stands in
    let grows : Grows before.home.table = record {
      verdicts = c.verdicts_stay.ensures;
      more_data = data_on before.home.table walking.of.is_table c.more_bytes_go_on.ensures.more (record {
        refused = c.layers_grow.ensures.refused;
        decisions = c.layers_grow.ensures.decisions;
      });
    } in
    let rest : List ℕ = drop c.feed-used.result.0 c.args.rest.now in
    let told = told_next _ _ _ c.args.rest.now c.args.end before given reader c.feed-used.new.self c.feed-used.result.0 c.feed-used.result.1 is grows
    c.requires.walking walking c.feed-used.ensures.fed in
    let here = subst (λ b. IsTold given rest c.feed-used.result.1 b c.count.new.self) (sym c.first-taken.ensures)
    (subst (λ r. IsTold given rest c.feed-used.result.1 (take c.feed-used.result.0 c.args.rest.now) r)
    (sym (c.count.ensures ∙ ap (counted_so c.feed-used.new.self reader) c.first-taken.ensures)) told) in
    comes_same given rest c.at_event-answer.result c.count.new.self reader c.at_event-answer.new.self (ap (λ (r : FileReader). r.drawn) c.count.ensures)
    (c.at_event-answer.ensures.comes given rest (record { names_are = is.names_are; known_is = is.known_is }) is.mark_is here)

pub returns-clause-home : goal.returns-clause-home
returns-clause-home g c names = c.at_event-answer.ensures.home names ∙ ap (λ (r : FileReader). home_of r.role (arc_value r.table) names r.file) c.count.ensures
