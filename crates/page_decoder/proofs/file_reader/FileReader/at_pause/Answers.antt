use Rattle.std.proofs.Common.{None, Some, sym, ap, subst, ◌∙◌}
use Rattle.page_decoder.specs.FileReading.{Answers, IsClosing}
use Rattle.page_decoder.specs.FileSteps.{Advances}
use Rattle.page_decoder.proofs.Answering.{comes_same}
use Rattle.page_decoder.proofs.Coming.{data_on}
use Rattle.page_decoder.proofs.Further.{Grows}
use Rattle.page_decoder.proofs.Pausing.{comes_to}
use Rattle.page_decoder.proofs.Sounding.{Container}
use Rattle.std.specs.Arc.{arc_value}
use Rattle.page_decoder.specs.Resolving.{home_of}
use Rattle.page_decoder.specs.declared.file_reader.FileReader.{FileReader}
use Rattle.page_decoder.proofs.file_reader.FileReader.at_pause.Goals as goal

pub returns-in-Some-clause-answers : goal.returns-in-Some-clause-answers
returns-in-Some-clause-answers g c = λ given rest so k.
    let old = c.args.self.now in
    let next = c.advance.new.self.chunk in
    let law : Container = record { laid = c.layout.ensures.laid; order = c.order.ensures } in
    let grows : Grows k.now.home.table = record {
      verdicts = c.verdicts_stay.ensures;
      more_data = data_on k.now.home.table k.of.is_table c.more_bytes_go_on.ensures.more (record {
        refused = c.layers_grow.ensures.refused;
        decisions = c.layers_grow.ensures.decisions;
      });
    } in
    subst (λ new. Answers given rest c.in-Some.answer old new) (sym c.advance.ensures.rest)
    (comes_to given rest c.args.behind old k law grows (Some c.in-Some.answer) next
    (subst (λ answer. Advances answer old.file old.chunk next) c.in-Some.is c.advance.ensures.advances))

pub returns-in-None-clause-answers : goal.returns-in-None-clause-answers
returns-in-None-clause-answers g c = λ given rest so k.
    let old = c.args.self.now in
    let next = c.advance.new.self.chunk in
    let law : Container = record { laid = c.layout.ensures.laid; order = c.order.ensures } in
    let grows : Grows k.now.home.table = record {
      verdicts = c.verdicts_stay.ensures;
      more_data = data_on k.now.home.table k.of.is_table c.more_bytes_go_on.ensures.more (record {
        refused = c.layers_grow.ensures.refused;
        decisions = c.layers_grow.ensures.decisions;
      });
    } in
    let closing = subst (λ new. IsClosing given rest c.args.behind new) (sym c.advance.ensures.rest)
    (comes_to given rest c.args.behind old k law grows None next
    (subst (λ answer. Advances answer old.file old.chunk next) c.in-None.is c.advance.ensures.advances)) in
    comes_same given rest (Some c.at_close.result) c.advance.new.self old c.at_close.new.self (ap (λ r. r.drawn) c.advance.ensures.rest)
    (c.at_close.ensures.answers given rest so closing)

pub returns-in-None-clause-home : goal.returns-in-None-clause-home
returns-in-None-clause-home g c names =
    c.at_close.ensures.home names
    ∙ ap (λ (r : FileReader). home_of r.role (arc_value r.table) names r.file) c.advance.ensures.rest
