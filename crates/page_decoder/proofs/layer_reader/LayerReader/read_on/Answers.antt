use Rattle.std.proofs.Common.{Option, None, refl, sym, ◌∙◌, subst}
use Rattle.iw44_image.specs.declared.headers.Header.{Header}
use Rattle.iw44_image.specs.declared.steps.IwStep.{IwStep}
use Rattle.std.specs.Prelude.{IsSome}
use Rattle.iw44_image.specs.Image.{HasSize}
use Rattle.page_decoder.specs.declared.layer_reader.LayerStep.{LayerStep}
use Rattle.page_decoder.specs.LayerState.{LayerState}
use Rattle.page_decoder.proofs.Layering.{Laws, Advanced, ReadsOn, step_of, image_reads}
use Rattle.page_decoder.proofs.layer_reader.LayerReader.read_on.Goals as goal
use Rattle.page_decoder.proofs.layer_reader.LayerReader.read_on.Goals.{in-ChunkDone, in-NeedBytes, in-Refused, in-OutOfMemory}

pub unreachable-requires : goal.unreachable-requires
unreachable-requires c =
    let size : HasSize c.in-Sized.width c.in-Sized.height c.self.inside.iw.header c.advance.new.self.header =
    c.advance.ensures.sized c.in-Sized.width c.in-Sized.height c.in-Sized.is in
    let told : IsSome c.self.inside.iw.header = subst (λ (it : LayerState). IsSome it.image.header) (sym c.self.view_is) c.requires.told in
    let none : Option Header = None in
    let wrong : IsSome none = subst (λ (h : Option Header). IsSome h) size.first told in
    cc

pub returns-clause-answers : goal.returns-clause-answers
returns-clause-answers c =
    let o : LayerState = record { image = c.self.inside.iw; page = c.self.inside.page_size; decisions = c.self.inside.count } in
    let n : LayerState = record { image = c.advance.new.self; page = c.self.inside.page_size; decisions = c.self.inside.count } in
    let e = c.advance.ensures in
    let laws : Laws = record {
      last = c.layers_go_on.ensures.last;
      decisions = c.layers_go_on.ensures.decisions;
      later = c.sizes_are_checked_first.ensures.later;
      untold = c.told_sizes_are_checked.ensures.untold;
      taken = c.told_sizes_are_checked.ensures.taken;
      refused = c.told_sizes_are_checked.ensures.refused;
    } in
    let adv : Advanced c.advance.result o n c.args.meter.now c.advance.new.meter = record {
      answers = e.answers;
      memory = e.out_of_memory;
      to_come = e.to_come;
      header = e.same_header;
      alike = record { table = e.table; limit = e.limit; page = refl };
    } in
    subst (λ (it : LayerState). ReadsOn c.match-advance.result it n c.args.meter.now c.advance.new.meter) c.self.view_is
    (elim c.match-advance.branch as (λ b. ReadsOn c.match-advance.result o n c.args.meter.now c.advance.new.meter) [
      | in-ChunkDone w ↦ subst (λ (r : LayerStep). ReadsOn r o n c.args.meter.now c.advance.new.meter) (sym w.result-is)
          (subst (λ (r : IwStep). ReadsOn (step_of r) o n c.args.meter.now c.advance.new.meter) w.in-ChunkDone.is
          (image_reads laws c.advance.result o n c.args.meter.now c.advance.new.meter adv (λ width height is. let wrong = sym is ∙ w.in-ChunkDone.is in cc)))
      | in-NeedBytes w ↦ subst (λ (r : LayerStep). ReadsOn r o n c.args.meter.now c.advance.new.meter) (sym w.result-is)
          (subst (λ (r : IwStep). ReadsOn (step_of r) o n c.args.meter.now c.advance.new.meter) w.in-NeedBytes.is
          (image_reads laws c.advance.result o n c.args.meter.now c.advance.new.meter adv (λ width height is. let wrong = sym is ∙ w.in-NeedBytes.is in cc)))
      | in-Refused w ↦ subst (λ (r : LayerStep). ReadsOn r o n c.args.meter.now c.advance.new.meter) (sym w.result-is)
          (subst (λ (r : IwStep). ReadsOn (step_of r) o n c.args.meter.now c.advance.new.meter) w.in-Refused.is
          (image_reads laws c.advance.result o n c.args.meter.now c.advance.new.meter adv (λ width height is. let wrong = sym is ∙ w.in-Refused.is in cc)))
      | in-OutOfMemory w ↦ subst (λ (r : LayerStep). ReadsOn r o n c.args.meter.now c.advance.new.meter) (sym w.result-is)
          (subst (λ (r : IwStep). ReadsOn (step_of r) o n c.args.meter.now c.advance.new.meter) w.in-OutOfMemory.is
          (image_reads laws c.advance.result o n c.args.meter.now c.advance.new.meter adv (λ width height is. let wrong = sym is ∙ w.in-OutOfMemory.is in cc)))
    ])
