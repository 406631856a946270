use Rattle.std.proofs.Common.{◌≡◌, ℕ, List, Option, ap, sym, ◌∙◌, subst, refl}
use Rattle.zp_decoder.specs.Decoder.{is_all}
use Rattle.iw44_image.specs.contracts.image.IwImage.{the_view}
use Rattle.iw44_image.specs.declared.steps.IwStep.{IwStep}
use Rattle.djvu_base.specs.declared.faults.FaultKind.TheVariants as fault
use Rattle.zp_table.specs.declared.rows.Row.{Row}
use Rattle.iw44_image.specs.declared.steps.Stage.TheVariants as stage
use Rattle.iw44_image.specs.Layer.{ends, Need, Fault}
use Rattle.iw44_image.specs.Image.{Image, frame_by, Holds, Steps, TicksTo, reading_in, reading_of, layer_of, is_whole}
use Rattle.iw44_image.proofs.Advancing.{Advance, moved_to, advance_of, kept_moved, same_at, next_at, told_still, ended_holds, taken_holds, needs_reads, stops_reads}
use Rattle.iw44_image.proofs.Advancing.{all_came, wants, here, gave, ticks, reading}
use Rattle.iw44_image.proofs.image.IwImage.read_slice.Goals as goal
use Rattle.iw44_image.proofs.image.IwImage.read_slice.Goals.{then-offer, else-offer}

pub invariant_of-self : goal.invariant_of-self
invariant_of-self g c =
    let im : Image = the_view c.self.inside in
    let a : Advance im c.in-Some.planes c.advance.new.self c.advance.new.zp c.advance.result c.args.channel c.args.done c.args.count
    (g.M.Meter.count c.args.meter.now) (g.M.Meter.count c.advance.new.meter) =
    advance_of c.self.view_is c.self.invariant c.requires.stage c.in-Some.is c.requires.running c.was_fed.ensures.standing c.advance.ensures.read
    c.advance.ensures.ticks c.advance.ensures.sound c.advance.ensures.table c.advance.ensures.ended in
    kept_moved a c.advance.new.zp im.left im.stage refl
    (same_at a c.advance.new.zp im.left
    (told_still a))

pub invariant_of-self-in-SliceEnd : goal.invariant_of-self-in-SliceEnd
invariant_of-self-in-SliceEnd g c =
    let im : Image = the_view c.self.inside in
    let a : Advance im c.in-Some.planes c.advance.new.self c.advance.new.zp c.advance.result c.args.channel c.args.done c.args.count
    (g.M.Meter.count c.args.meter.now) (g.M.Meter.count c.advance.new.meter) =
    advance_of c.self.view_is c.self.invariant c.requires.stage c.in-Some.is c.requires.running c.was_fed.ensures.standing c.advance.ensures.read
    c.advance.ensures.ticks c.advance.ensures.sound c.advance.ensures.table c.advance.ensures.ended in
    kept_moved a c.advance.new.zp im.left c.next_stage-self-inside.result refl
    (next_at a c.has_chroma-chroma.result c.next_stage-self-inside.result
    (sym c.has_chroma-chroma.ensures) c.next_stage-self-inside.ensures)

pub returns-in-SliceEnd-clause-steps : goal.returns-in-SliceEnd-clause-steps
unfolding Holds
returns-in-SliceEnd-clause-steps g c = λ layer bytes decisions holds.
    let im : Image = the_view c.self.inside in
    let a : Advance im c.in-Some.planes c.advance.new.self c.advance.new.zp c.advance.result c.args.channel c.args.done c.args.count
    (g.M.Meter.count c.args.meter.now) (g.M.Meter.count c.advance.new.meter) =
    advance_of c.self.view_is c.self.invariant c.requires.stage c.in-Some.is c.requires.running c.was_fed.ensures.standing c.advance.ensures.read
    c.advance.ensures.ticks c.advance.ensures.sound c.advance.ensures.table c.advance.ensures.ended in
    let before = subst (λ (i : Image). Holds layer bytes decisions i) (sym c.self.view_is) holds in
    let more = ticks a layer bytes decisions before in
    let there = ended_holds a layer bytes decisions before
    c.has_chroma-chroma.result c.next_stage-self-inside.result c.in-SliceEnd.is (sym c.has_chroma-chroma.ensures) c.next_stage-self-inside.ensures in
    (_, (there, more))

pub invariant_of-self-in-NeedBytes : goal.invariant_of-self-in-NeedBytes
invariant_of-self-in-NeedBytes g c =
    let im : Image = the_view c.self.inside in
    let a : Advance im c.in-Some.planes c.advance.new.self c.advance.new.zp c.advance.result c.args.channel c.args.done c.args.count
    (g.M.Meter.count c.args.meter.now) (g.M.Meter.count c.advance.new.meter) =
    advance_of c.self.view_is c.self.invariant c.requires.stage c.in-Some.is c.requires.running c.was_fed.ensures.standing c.advance.ensures.read
    c.advance.ensures.ticks c.advance.ensures.sound c.advance.ensures.table c.advance.ensures.ended in
    let whole = c.is_whole-whole.ensures ∙ ap (λ (i : Image). is_whole i.to_come) (sym c.self.view_is) in
    kept_moved a c.offer.new.zp c.offer.new.self im.stage c.offer.ensures.takes.table
    (same_at a c.offer.new.zp c.offer.new.self (c.offer.ensures.told ∙ ap (is_all c.offer.new.self) whole))

pub invariant_of-self-in-Exhausted : goal.invariant_of-self-in-Exhausted
invariant_of-self-in-Exhausted g c =
    let im : Image = the_view c.self.inside in
    let a : Advance im c.in-Some.planes c.advance.new.self c.advance.new.zp c.advance.result c.args.channel c.args.done c.args.count
    (g.M.Meter.count c.args.meter.now) (g.M.Meter.count c.advance.new.meter) =
    advance_of c.self.view_is c.self.invariant c.requires.stage c.in-Some.is c.requires.running c.was_fed.ensures.standing c.advance.ensures.read
    c.advance.ensures.ticks c.advance.ensures.sound c.advance.ensures.table c.advance.ensures.ended in
    kept_moved a c.advance.new.zp im.left _ refl tt

pub returns-in-Exhausted-clause-steps : goal.returns-in-Exhausted-clause-steps
unfolding Holds
returns-in-Exhausted-clause-steps g c = λ layer bytes decisions holds.
    let im : Image = the_view c.self.inside in
    let a : Advance im c.in-Some.planes c.advance.new.self c.advance.new.zp c.advance.result c.args.channel c.args.done c.args.count
    (g.M.Meter.count c.args.meter.now) (g.M.Meter.count c.advance.new.meter) =
    advance_of c.self.view_is c.self.invariant c.requires.stage c.in-Some.is c.requires.running c.was_fed.ensures.standing c.advance.ensures.read
    c.advance.ensures.ticks c.advance.ensures.sound c.advance.ensures.table c.advance.ensures.ended in
    let before = subst (λ (i : Image). Holds layer bytes decisions i) (sym c.self.view_is) holds in
    let more = ticks a layer bytes decisions before in
    let reads = stops_reads a layer bytes decisions before c.in-Exhausted.is (all_came a layer bytes decisions before c.in-Exhausted.is) in
    let now : ℕ = (reading a layer bytes decisions before).at.decisions in
    let new : Image = moved_to im c.advance.new.self c.advance.new.zp im.left (stage.Refused fault.ZpExhausted) in
    let held : Holds layer bytes now new = subst (λ (t : List Row). reading_in
    (frame_by t im.limit im.header im.to_come im.chunks im.slices) bytes layer
    ≡ ends (Fault fault.ZpExhausted) (layer_of new now)) (sym c.advance.ensures.table) reads in
    (now, ((subst (λ (i : Image). reading_of i bytes layer ≡ ends (Fault fault.ZpExhausted) (layer_of new now)) c.self.view_is reads, held), more))

pub returns-after-offer-clause-steps : goal.returns-after-offer-clause-steps
unfolding Holds
returns-after-offer-clause-steps g c = λ layer bytes decisions holds.
    let im : Image = the_view c.self.inside in
    let a : Advance im c.in-Some.planes c.advance.new.self c.advance.new.zp c.advance.result c.args.channel c.args.done c.args.count
    (g.M.Meter.count c.args.meter.now) (g.M.Meter.count c.advance.new.meter) =
    advance_of c.self.view_is c.self.invariant c.requires.stage c.in-Some.is c.requires.running c.was_fed.ensures.standing c.advance.ensures.read
    c.advance.ensures.ticks c.advance.ensures.sound c.advance.ensures.table c.advance.ensures.ended in
    let before = subst (λ (i : Image). Holds layer bytes decisions i) (sym c.self.view_is) holds in
    let whole = c.is_whole-whole.ensures ∙ ap (λ (i : Image). is_whole i.to_come) (sym c.self.view_is) in
    let more = ticks a layer bytes decisions before in
    let there = taken_holds a layer bytes decisions before c.offer.new.zp c.offer.new.self c.in-NeedBytes.is c.offer.ensures.takes
    (c.offer.ensures.told ∙ ap (is_all c.offer.new.self) whole) in
    let new : Image = moved_to im c.advance.new.self c.offer.new.zp c.offer.new.self im.stage in
    let now : ℕ = (reading a layer bytes decisions before).at.decisions in
    elim c.if-offer.branch [
      | then-offer w ↦ subst (λ (r : Option IwStep). (x : ℕ) × (Steps r layer bytes x c.args.self.now new × TicksTo decisions x
          (g.M.Meter.count c.args.meter.now) (g.M.Meter.count c.advance.new.meter))) (sym w.result-is)
          (now, (there, more))
      | else-offer w ↦ subst (λ (r : Option IwStep). (x : ℕ) × (Steps r layer bytes x c.args.self.now new × TicksTo decisions x
          (g.M.Meter.count c.args.meter.now) (g.M.Meter.count c.advance.new.meter))) (sym w.result-is)
          (let none = c.offer.ensures.all w.if-offer.false
          (here a layer bytes decisions before).taken _ (gave a layer bytes decisions before).read.fed
          (wants a layer bytes decisions before c.in-NeedBytes.is) in
          let reads = needs_reads a layer bytes decisions before c.in-NeedBytes.is none in
          (now, ((subst (λ (i : Image). reading_of i bytes layer ≡ ends Need (layer_of new now)) c.self.view_is reads, there), more)))
    ]
