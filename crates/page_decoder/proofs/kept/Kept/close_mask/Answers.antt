use Rattle.std.proofs.Common.{◌≡◌, ◌≢◌, ◌≤◌, true, Some, refl, sym, ap, ◌∙◌, subst}
use Rattle.djvu_base.specs.Meter.{ticked, TicksExactly}
use Rattle.jb2_records.specs.declared.purpose.Purpose.TheVariants as purpose
use Rattle.jb2_records.specs.declared.reader.Jb2Step.TheVariants as records
use Rattle.jb2_records.specs.Reading.{Input, records_of}
use Rattle.jb2_records.specs.ReaderState.{Source, input_of}
use Rattle.jb2_records.specs.Mask.{mask_drawn}
use Rattle.iw44_image.specs.Layer.{data_of}
use Rattle.layer_compose.specs.declared.layers.Layers.{Layers}
use Rattle.page_decoder.specs.declared.closing.Closed.{Closed}
use Rattle.page_decoder.specs.declared.page_layers.PageLayer.TheVariants as layer
use Rattle.page_decoder.specs.Kinds.{brings_drawing}
use Rattle.page_decoder.specs.Reading.{with_mask}
use Rattle.page_decoder.specs.ChunkData.{Came, Leaves, records_in, records_outcome, with_layers, mask_by, mask_came}
use Rattle.page_decoder.specs.Opened.{ClosesTo}
use Rattle.page_decoder.proofs.Laying.{laid_closes, keeps_beside, input_so, never_waits}
use Rattle.page_decoder.proofs.kept.Kept.close_mask.Goals as goal

pub returns-in-Finished-clause-closes : goal.returns-in-Finished-clause-closes
returns-in-Finished-clause-closes g c table head decoded bytes keeps reads =
    let layers : Layers = reads.layers in
    let input : Input = records_in table (purpose.Mask layers.width layers.height) (data_of bytes true) decoded in
    let e = c.advance.ensures in
    let fed = c.end.ensures.fed bytes reads.records.fed in
    let same : input_of c.end.new.self bytes ≡ input =
    input_so (purpose.Mask layers.width layers.height) table decoded bytes c.args.reader c.end.new.self reads.records c.end.ensures.source
    c.end.ensures.ended in
    let last : input_of c.advance.new.self bytes ≡ input =
    input_so (purpose.Mask layers.width layers.height) table decoded bytes c.args.reader c.advance.new.self reads.records (e.source ∙ c.end.ensures.source)
    (e.ended ∙ c.end.ensures.ended) in
    let some : c.advance.result ≢ records.OutOfMemory = λ h. let wrong = sym c.in-Finished.is ∙ h in cc in
    let answer : (records_of input).answer ≡ records.Finished =
    sym (e.answer bytes fed some ∙ ap (λ (i : Input). (records_of i).answer) same) ∙ c.in-Finished.is in
    let count : TicksExactly (records_of input).decisions 0 c.advance.new.self.decisions =
    subst (λ (i : Input). TicksExactly (records_of i).decisions 0 c.advance.new.self.decisions) same (e.decisions bytes fed some) in
    let most : c.advance.new.self.decisions ≤ ticked (records_of input).decisions 0 =
    subst (λ (i : Input). c.advance.new.self.decisions ≤ ticked (records_of i).decisions 0) same (e.at_most bytes fed).1 in
    let source : c.advance.new.self.source.purpose ≡ purpose.Mask layers.width layers.height =
    ap (λ (s : Source). s.purpose) (e.source ∙ c.end.ensures.source) ∙ reads.records.purpose_is in
    let drawn : c.mask.result ≡ mask_drawn layers.width layers.height input =
    c.mask.ensures.mask layers.width layers.height bytes source (e.fed bytes fed) ∙ ap (mask_drawn layers.width layers.height) last in
    let fits : (c.mask.result.width ≡ layers.width) × (c.mask.result.height ≡ layers.height) =
    (c.mask.ensures.width layers.width layers.height source, c.mask.ensures.height layers.width layers.height source) in
    let it : Came = mask_came decoded.layers table (data_of bytes true) decoded in
    let came : it ≡ mask_by layers input (data_of bytes true) decoded = ap (λ l. mask_came l table (data_of bytes true) decoded) reads.sized in
    let leaves : it.outcome ≡ Leaves (with_layers (with_mask layers c.mask.result) decoded) =
    ap (λ (x : Came). x.outcome) came
    ∙ ap (λ a. records_outcome a (data_of bytes true) (with_layers (with_mask layers (mask_drawn layers.width layers.height input)) decoded)) answer
    ∙ ap (λ m. Leaves (with_layers (with_mask layers m) decoded)) (sym drawn) in
    subst (λ (r : Closed). ClosesTo r c.args.chunks table head decoded it c.lay.new.self)
    (sym (c.of.ensures ∙ ap (λ d. record { came = c.lay.result; decisions = d }) c.decisions-decisions.ensures))
    (record {
      closes = laid_closes c.lay.result (layer.Mask (Some c.mask.result)) c.args.chunks c.args.self.now c.lay.new.self table head decoded
          (with_layers (with_mask layers c.mask.result) decoded) it.outcome layers c.lay.ensures.laid (keeps.layers_are ∙ reads.sized) fits leaves refl
          (λ notice h now. keeps_beside table decoded c.args.self.now c.lay.new.self layers (with_mask layers c.mask.result) keeps c.lay.ensures.others
          reads.sized refl refl now) (ap brings_drawing reads.is_kind);
      all = λ h. subst (λ (x : Came). TicksExactly x.decisions 0 c.advance.new.self.decisions) (sym came) count;
      at_most = subst (λ (x : Came). c.advance.new.self.decisions ≤ ticked x.decisions 0) (sym came) most;
    })

pub returns-in-NeedBytes-clause-closes : goal.returns-in-NeedBytes-clause-closes
returns-in-NeedBytes-clause-closes g c table head decoded bytes keeps reads =
    let layers : Layers = reads.layers in
    let fed = c.end.ensures.fed bytes reads.records.fed in
    let answer = c.advance.ensures.answer bytes fed (λ h. let wrong = sym c.in-NeedBytes.is ∙ h in cc) in
    absurd (never_waits (purpose.Mask layers.width layers.height) table decoded bytes c.args.reader c.end.new.self reads.records c.end.ensures.source
    c.end.ensures.ended c.records_end.ensures.ended (sym c.in-NeedBytes.is ∙ answer))
