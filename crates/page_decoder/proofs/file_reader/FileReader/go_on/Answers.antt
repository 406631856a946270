use Rattle.std.proofs.Common.{◌≡◌, refl, ◌∙◌}
use Rattle.page_decoder.proofs.Further.{Grows}
use Rattle.page_decoder.proofs.Coming.{data_on}
use Rattle.page_decoder.proofs.Lifting.{of_at, stands_before, rise_none}
use Rattle.page_decoder.proofs.file_reader.FileReader.go_on.Goals as goal

pub returns-in-Before-clause-comes : goal.returns-in-Before-clause-comes
returns-in-Before-clause-comes g c before given is stands =
    let grows : Grows before.home.table = record {
      verdicts = c.verdicts_stay.ensures;
      more_data = data_on before.home.table (of_at before c.args.self.now.stage c.args.self.now stands).is_table c.more_bytes_go_on.ensures.more (record {
        refused = c.layers_grow.ensures.refused;
        decisions = c.layers_grow.ensures.decisions;
      });
    } in
    c.enter.ensures.comes given c.args.rest.now (record { names_are = is.names_are; known_is = is.known_is }) (record {
      stage_is = c.in-Before.is;
      stands = stands_before _ _ _ c.args.rest.now c.args.end before given c.args.self.now is grows stands;
    })

pub returns-in-Before-clause-rise : goal.returns-in-Before-clause-rise
returns-in-Before-clause-rise g c = rise_none _ _ _ _ c.enter.ensures.rise refl

pub returns-in-AtEnd-clause-comes : goal.returns-in-AtEnd-clause-comes
returns-in-AtEnd-clause-comes g c before given is stands =
    let grows : Grows before.home.table = record {
      verdicts = c.verdicts_stay.ensures;
      more_data = data_on before.home.table (of_at before c.args.self.now.stage c.args.self.now stands).is_table c.more_bytes_go_on.ensures.more (record {
        refused = c.layers_grow.ensures.refused;
        decisions = c.layers_grow.ensures.decisions;
      });
    } in
    c.finish.ensures.answers given c.args.rest.now (record { names_are = is.names_are; known_is = is.known_is }) (record {
      stage_is = c.in-AtEnd.is;
      stands = stands_before _ _ _ c.args.rest.now c.args.end before given c.args.self.now is grows stands;
    })

pub returns-in-AtEnd-clause-rise : goal.returns-in-AtEnd-clause-rise
returns-in-AtEnd-clause-rise g c = rise_none _ _ _ _ c.finish.ensures.rise refl
