use Rattle.std.proofs.Common.{◌≡◌, ℕ, refl, sym, ◌∙◌, subst}
use Rattle.zp_table.specs.Rows.{IsTable}
use Rattle.page_decoder.specs.declared.file_reader.FileReader.{FileReader}
use Rattle.page_decoder.specs.declared.headers.Head.{Head}
use Rattle.page_decoder.specs.Headers.{form_fault, header_fault}
use Rattle.page_decoder.specs.Resolving.{role_of}
use Rattle.page_decoder.specs.FileReading.{HoldsChunk, ComesTo, IsTold}
use Rattle.page_decoder.proofs.Further.{Grows}
use Rattle.page_decoder.proofs.Coming.{data_on}
use Rattle.page_decoder.proofs.Lifting.{rise_none}
use Rattle.page_decoder.proofs.Eventing.{kept_so, form_comes, header_comes}
use Rattle.page_decoder.proofs.Origins.{form_end_pauses, broken_pauses_so}
use Rattle.page_decoder.proofs.DataEvents.{data_comes}
use Rattle.page_decoder.proofs.file_reader.FileReader.at_event.Goals as goal

pub returns-in-Form-clause-comes : goal.returns-in-Form-clause-comes
returns-in-Form-clause-comes g c given rest known mark t =
    let reader : FileReader = c.args.self.now in
    let told = subst (λ a. IsTold given rest a c.args.taken.now reader) c.in-Form.is t in
    subst (λ x. ComesTo given rest x reader reader) (sym c.at_form.ensures)
    (form_comes given rest c.args.taken.now reader c.in-Form.kind c.in-Form.length told (form_fault (role_of reader.role) c.in-Form.kind) refl)

pub returns-in-Header-clause-comes : goal.returns-in-Header-clause-comes
returns-in-Header-clause-comes g c given rest known mark t =
    let reader : FileReader = c.args.self.now in
    let head : Head = record { id = c.in-Header.id; offset = c.in-Header.offset; size = c.in-Header.length } in
    let told = subst (λ a. IsTold given rest a c.args.taken.now reader) c.in-Header.is t in
    let none = subst (λ k. HoldsChunk told.now.home.table k reader.chunk told.left.decoded reader.kept) told.order told.holds.holds_chunk in
    let keeps = kept_so told.now.home.table reader.chunk told.left.decoded reader.kept none in
    header_comes given rest c.args.taken.now reader head told (header_fault (role_of reader.role) told.left head) c.at_header.result c.at_header.new.self refl
    (c.at_header.ensures.judged told.left told.holds.tallies.chunks_are (record { layers_are = keeps.layers_are; own_is = keeps.own_is }))

pub returns-in-Header-clause-rise : goal.returns-in-Header-clause-rise
returns-in-Header-clause-rise g c = rise_none _ _ _ _ c.at_header.ensures.rise refl

pub returns-in-Data-clause-comes : goal.returns-in-Data-clause-comes
returns-in-Data-clause-comes g c given rest known mark t =
    let reader : FileReader = c.args.self.now in
    let told = subst (λ a. IsTold given rest a c.args.taken.now reader) c.in-Data.is t in
    let table = subst (λ h. IsTable h.table) told.within.home told.of.is_table in
    let grows : Grows given.home.table = record {
      verdicts = c.verdicts_stay.ensures;
      more_data = data_on given.home.table table c.more_bytes_go_on.ensures.more (record {
        refused = c.layers_grow.ensures.refused;
        decisions = c.layers_grow.ensures.decisions;
      });
    } in
    data_comes given rest c.args.taken.now reader c.at_data.new.self (record { laid = c.layout.ensures.laid; order = c.order.ensures }) grows told
    c.at_data.ensures.rest c.at_data.result c.at_data.ensures.answer c.at_data.ensures.chunk c.at_data.ensures.rise

pub returns-in-Data-clause-rise : goal.returns-in-Data-clause-rise
returns-in-Data-clause-rise g c = rise_none _ _ _ _ c.at_data.ensures.rise refl

pub returns-in-ChunkEnd-clause-comes : goal.returns-in-ChunkEnd-clause-comes
returns-in-ChunkEnd-clause-comes g c given rest known mark t =
    c.at_chunk_end.ensures.comes given rest c.args.taken.now (subst (λ a. IsTold given rest a c.args.taken.now c.args.self.now) c.in-ChunkEnd.is t)

pub returns-in-NeedBytes-clause-comes : goal.returns-in-NeedBytes-clause-comes
returns-in-NeedBytes-clause-comes g c given rest known mark t =
    c.at_bytes_end.ensures.answers given rest c.args.taken.now known mark
    (subst (λ a. IsTold given rest a c.args.taken.now c.args.self.now) c.in-NeedBytes.is t)

pub returns-in-FormEnd-clause-comes : goal.returns-in-FormEnd-clause-comes
returns-in-FormEnd-clause-comes g c given rest known mark t =
    c.at_pause.ensures.answers given rest known (form_end_pauses (record { laid = c.layout.ensures.laid; order = c.order.ensures }) given rest
    c.args.taken.now c.args.self.now (subst (λ a. IsTold given rest a c.args.taken.now c.args.self.now) c.in-FormEnd.is t))

pub returns-in-Broken-clause-comes : goal.returns-in-Broken-clause-comes
returns-in-Broken-clause-comes g c given rest known mark t =
    c.at_pause-in-Broken.ensures.answers given rest known (broken_pauses_so (record { laid = c.layout.ensures.laid; order = c.order.ensures }) given rest
    c.args.taken.now c.args.self.now c.never_cut.ensures c.in-Broken.kind c.in-Broken.offset
    (subst (λ a. IsTold given rest a c.args.taken.now c.args.self.now) c.in-Broken.is t))
