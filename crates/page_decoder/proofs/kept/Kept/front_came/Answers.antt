use Rattle.std.proofs.Common.{◌≡◌, ◌≤◌, true, [], refl, sym, ap, ◌∙◌, subst}
use Rattle.djvu_base.specs.Meter.{ticked, TicksExactly}
use Rattle.iw44_image.specs.Layer.{data_of}
use Rattle.page_decoder.specs.declared.layer_reader.LayerStep.{LayerStep}
use Rattle.page_decoder.specs.declared.layer_reader.LayerStep.TheVariants as step
use Rattle.page_decoder.specs.Kinds as kind
use Rattle.page_decoder.specs.ChunkData.{Came, front_limit, front_came}
use Rattle.page_decoder.specs.LayerState.{LayerState, Answers, KeepsOpen, decisions_with}
use Rattle.page_decoder.proofs.Laying.{whole_count, layer_never_waits, front_closes, front_fails}
use Rattle.page_decoder.proofs.kept.Kept.front_came.Goals as goal

pub returns-in-ChunkDone-clause-closes : goal.returns-in-ChunkDone-clause-closes
returns-in-ChunkDone-clause-closes g c table head decoded bytes keeps reads =
    let o : LayerState = c.args.reader.now in
    let n : LayerState = c.advance.new.self in
    let e = c.advance.ensures in
    let it : Came = front_came decoded.layers table (data_of bytes true) decoded in
    let count : decisions_with o [] bytes ≡ it.decisions =
    whole_count kind.Front front_limit [] table head decoded bytes o reads
    ∙ sym (ap (λ l. (front_came l table (data_of bytes true) decoded).decisions) reads.sized) in
    let told : Answers step.ChunkDone [] bytes o n = subst (λ (s : LayerStep). Answers s [] bytes o n) c.in-ChunkDone.is (e.answers [] bytes reads.lays) in
    let kept : KeepsOpen step.ChunkDone o n = subst (λ (s : LayerStep). KeepsOpen s o n) c.in-ChunkDone.is e.kept in
    record {
      closes = front_closes o n c.lay_front.result c.args.chunks c.args.self.now c.lay_front.new.self table head decoded bytes reads keeps told kept
          c.lay_front.ensures.laid c.lay_front.ensures.others;
      all = λ h. subst (λ d. TicksExactly d 0 n.decisions) count (e.decisions [] bytes reads.lays (λ m. let wrong = sym c.in-ChunkDone.is ∙ m in cc));
      at_most = subst (λ d. n.decisions ≤ ticked d 0) count (e.at_most [] bytes reads.lays);
    }

pub returns-in-NeedBytes-clause-closes : goal.returns-in-NeedBytes-clause-closes
returns-in-NeedBytes-clause-closes g c table head decoded bytes keeps reads =
    let o : LayerState = c.args.reader.now in
    let told : Answers step.NeedBytes [] bytes o c.advance.new.self =
    subst (λ (s : LayerStep). Answers s [] bytes o c.advance.new.self) c.in-NeedBytes.is (c.advance.ensures.answers [] bytes reads.lays) in
    absurd (layer_never_waits kind.Front front_limit [] table head decoded bytes o reads c.layers_go_on.ensures.last c.complete_chunks_are_answered.ensures
    told.0)

pub returns-in-Refused-clause-closes : goal.returns-in-Refused-clause-closes
returns-in-Refused-clause-closes g c table head decoded bytes keeps reads =
    let o : LayerState = c.args.reader.now in
    let n : LayerState = c.advance.new.self in
    let e = c.advance.ensures in
    let it : Came = front_came decoded.layers table (data_of bytes true) decoded in
    let count : decisions_with o [] bytes ≡ it.decisions =
    whole_count kind.Front front_limit [] table head decoded bytes o reads
    ∙ sym (ap (λ l. (front_came l table (data_of bytes true) decoded).decisions) reads.sized) in
    let told : Answers (step.Refused c.in-Refused.kind) [] bytes o n =
    subst (λ (s : LayerStep). Answers s [] bytes o n) c.in-Refused.is (e.answers [] bytes reads.lays) in
    record {
      closes = front_fails c.in-Refused.kind o table head decoded bytes reads told;
      all = λ h. subst (λ d. TicksExactly d 0 n.decisions) count (e.decisions [] bytes reads.lays (λ m. let wrong = sym c.in-Refused.is ∙ m in cc));
      at_most = subst (λ d. n.decisions ≤ ticked d 0) count (e.at_most [] bytes reads.lays);
    }

pub returns-in-OutOfMemory-clause-closes : goal.returns-in-OutOfMemory-clause-closes
returns-in-OutOfMemory-clause-closes g c table head decoded bytes keeps reads =
    let o : LayerState = c.args.reader.now in
    let it : Came = front_came decoded.layers table (data_of bytes true) decoded in
    let count : decisions_with o [] bytes ≡ it.decisions =
    whole_count kind.Front front_limit [] table head decoded bytes o reads
    ∙ sym (ap (λ l. (front_came l table (data_of bytes true) decoded).decisions) reads.sized) in
    record {
      closes = tt;
      all = λ h. absurd (h refl);
      at_most = subst (λ d. c.advance.new.self.decisions ≤ ticked d 0) count (c.advance.ensures.at_most [] bytes reads.lays);
    }
