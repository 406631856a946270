use Rattle.std.proofs.Common.{◌≡◌, ◌≤◌, true, sym, ap, ◌∙◌, subst}
use Rattle.djvu_base.specs.Meter.{ticked, TicksExactly}
use Rattle.iw44_image.specs.Layer.{data_of}
use Rattle.page_decoder.specs.declared.layer_reader.LayerStep.{LayerStep}
use Rattle.page_decoder.specs.declared.layer_reader.LayerStep.TheVariants as step
use Rattle.page_decoder.specs.declared.closing.Closed.{Closed}
use Rattle.page_decoder.specs.Kinds as kind
use Rattle.page_decoder.specs.ChunkData.{Came, back_limit, back_came}
use Rattle.page_decoder.specs.LayerState.{LayerState, Answers, KeepsOpen, decisions_with}
use Rattle.page_decoder.specs.Opened.{ClosesTo}
use Rattle.page_decoder.proofs.Laying.{whole_count, layer_never_waits, back_closes}
use Rattle.page_decoder.proofs.kept.Kept.close_back.Goals as goal

pub returns-in-ChunkDone-clause-closes : goal.returns-in-ChunkDone-clause-closes
returns-in-ChunkDone-clause-closes g c table head decoded bytes layers_are own_is reads =
    let o : LayerState = c.args.reader in
    let n : LayerState = c.advance.new.self in
    let e = c.advance.ensures in
    let it : Came = back_came decoded.layers table (data_of bytes true) decoded in
    let count : decisions_with o decoded.back bytes ≡ it.decisions =
    whole_count kind.Back back_limit decoded.back table head decoded bytes o reads
    ∙ sym (ap (λ l. (back_came l table (data_of bytes true) decoded).decisions) reads.sized) in
    let told : Answers step.ChunkDone decoded.back bytes o n =
    subst (λ (s : LayerStep). Answers s decoded.back bytes o n) c.in-ChunkDone.is (e.answers decoded.back bytes reads.lays) in
    let kept : KeepsOpen step.ChunkDone o n = subst (λ (s : LayerStep). KeepsOpen s o n) c.in-ChunkDone.is e.kept in
    subst (λ (r : Closed). ClosesTo r c.args.chunks table head decoded it c.lay_back.new.self)
    (sym (c.of.ensures ∙ ap (λ d. record { came = c.lay_back.result; decisions = d }) c.decisions-decisions.ensures))
    (record {
      closes = back_closes o n c.lay_back.result c.args.chunks c.args.self.now c.lay_back.new.self table head decoded bytes reads layers_are own_is told kept
          c.lay_back.ensures.laid c.lay_back.ensures.own c.lay_back.ensures.back;
      all = λ h. subst (λ d. TicksExactly d 0 n.decisions) count (e.decisions decoded.back bytes reads.lays
          (λ m. let wrong = sym c.in-ChunkDone.is ∙ m in cc));
      at_most = subst (λ d. n.decisions ≤ ticked d 0) count (e.at_most decoded.back bytes reads.lays);
    })

pub returns-in-NeedBytes-clause-closes : goal.returns-in-NeedBytes-clause-closes
returns-in-NeedBytes-clause-closes g c table head decoded bytes layers_are own_is reads =
    let o : LayerState = c.args.reader in
    let told : Answers step.NeedBytes decoded.back bytes o c.advance.new.self =
    subst (λ (s : LayerStep). Answers s decoded.back bytes o c.advance.new.self) c.in-NeedBytes.is (c.advance.ensures.answers decoded.back bytes reads.lays) in
    absurd (layer_never_waits kind.Back back_limit decoded.back table head decoded bytes o reads c.layers_go_on.ensures.last
    c.complete_chunks_are_answered.ensures told.0)
