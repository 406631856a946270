use Rattle.std.proofs.Common.{◌≡◌, ℕ, Option, is_some, not, true, false, refl, sym, ap, ◌∙◌, subst}
use Rattle.djvu_base.specs.declared.faults.FaultKind.TheVariants as fault
use Rattle.iw44_image.specs.declared.headers.Header.{Header}
use Rattle.iw44_image.specs.declared.steps.IwStep.{IwStep}
use Rattle.iw44_image.specs.declared.steps.IwStep.TheVariants as iw
use Rattle.std.specs.Prelude.{IsSome}
use Rattle.iw44_image.specs.Image.{HasSize}
use Rattle.layer_compose.specs.Reduction.{reduction_of}
use Rattle.page_decoder.specs.declared.layer_reader.LayerStep.TheVariants as step
use Rattle.page_decoder.specs.LayerState.{LayerState, KeepsOpen}
use Rattle.page_decoder.proofs.Layering.{Laws, Advanced, ReadsOn, step_of, image_reads, misfit_on, sized_on, keeps_both}
use Rattle.page_decoder.proofs.layer_reader.LayerReader.read.Goals as goal

pub returns-in-ChunkDone-clause-answers : goal.returns-in-ChunkDone-clause-answers
returns-in-ChunkDone-clause-answers c =
    let o : LayerState = record { image = c.self.inside.iw; page = c.self.inside.page_size; decisions = c.self.inside.count } in
    let n : LayerState = record { image = c.advance.new.self; page = c.self.inside.page_size; decisions = c.self.inside.count } in
    let e = c.advance.ensures in
    let laws : Laws = record {
      last = c.layers_go_on.ensures.last;
      decisions = c.layers_go_on.ensures.decisions;
      later = c.sizes_are_checked_first.ensures.later;
      untold = c.told_sizes_are_checked.ensures.untold;
      taken = c.told_sizes_are_checked.ensures.taken;
      refused = c.told_sizes_are_checked.ensures.refused;
    } in
    let adv : Advanced c.advance.result o n c.args.meter.now c.advance.new.meter = record {
      answers = e.answers;
      memory = e.out_of_memory;
      to_come = e.to_come;
      header = e.same_header;
      alike = record { table = e.table; limit = e.limit; page = refl };
    } in
    let reads : ReadsOn (step_of c.advance.result) o n c.args.meter.now c.advance.new.meter =
    image_reads laws c.advance.result o n c.args.meter.now c.advance.new.meter adv (λ width height is. let wrong = sym is ∙ c.in-ChunkDone.is in cc) in
    subst (λ (it : LayerState). ReadsOn (step_of (iw.ChunkDone)) it n c.args.meter.now c.advance.new.meter) c.self.view_is
    (subst (λ (r : IwStep). ReadsOn (step_of r) o n c.args.meter.now c.advance.new.meter) c.in-ChunkDone.is reads)

pub returns-in-NeedBytes-clause-answers : goal.returns-in-NeedBytes-clause-answers
returns-in-NeedBytes-clause-answers c =
    let o : LayerState = record { image = c.self.inside.iw; page = c.self.inside.page_size; decisions = c.self.inside.count } in
    let n : LayerState = record { image = c.advance.new.self; page = c.self.inside.page_size; decisions = c.self.inside.count } in
    let e = c.advance.ensures in
    let laws : Laws = record {
      last = c.layers_go_on.ensures.last;
      decisions = c.layers_go_on.ensures.decisions;
      later = c.sizes_are_checked_first.ensures.later;
      untold = c.told_sizes_are_checked.ensures.untold;
      taken = c.told_sizes_are_checked.ensures.taken;
      refused = c.told_sizes_are_checked.ensures.refused;
    } in
    let adv : Advanced c.advance.result o n c.args.meter.now c.advance.new.meter = record {
      answers = e.answers;
      memory = e.out_of_memory;
      to_come = e.to_come;
      header = e.same_header;
      alike = record { table = e.table; limit = e.limit; page = refl };
    } in
    let reads : ReadsOn (step_of c.advance.result) o n c.args.meter.now c.advance.new.meter =
    image_reads laws c.advance.result o n c.args.meter.now c.advance.new.meter adv (λ width height is. let wrong = sym is ∙ c.in-NeedBytes.is in cc) in
    subst (λ (it : LayerState). ReadsOn (step_of (iw.NeedBytes)) it n c.args.meter.now c.advance.new.meter) c.self.view_is
    (subst (λ (r : IwStep). ReadsOn (step_of r) o n c.args.meter.now c.advance.new.meter) c.in-NeedBytes.is reads)

pub returns-in-Refused-clause-answers : goal.returns-in-Refused-clause-answers
returns-in-Refused-clause-answers c =
    let o : LayerState = record { image = c.self.inside.iw; page = c.self.inside.page_size; decisions = c.self.inside.count } in
    let n : LayerState = record { image = c.advance.new.self; page = c.self.inside.page_size; decisions = c.self.inside.count } in
    let e = c.advance.ensures in
    let laws : Laws = record {
      last = c.layers_go_on.ensures.last;
      decisions = c.layers_go_on.ensures.decisions;
      later = c.sizes_are_checked_first.ensures.later;
      untold = c.told_sizes_are_checked.ensures.untold;
      taken = c.told_sizes_are_checked.ensures.taken;
      refused = c.told_sizes_are_checked.ensures.refused;
    } in
    let adv : Advanced c.advance.result o n c.args.meter.now c.advance.new.meter = record {
      answers = e.answers;
      memory = e.out_of_memory;
      to_come = e.to_come;
      header = e.same_header;
      alike = record { table = e.table; limit = e.limit; page = refl };
    } in
    let reads : ReadsOn (step_of c.advance.result) o n c.args.meter.now c.advance.new.meter =
    image_reads laws c.advance.result o n c.args.meter.now c.advance.new.meter adv (λ width height is. let wrong = sym is ∙ c.in-Refused.is in cc) in
    subst (λ (it : LayerState). ReadsOn (step_of (iw.Refused c.in-Refused.kind)) it n c.args.meter.now c.advance.new.meter) c.self.view_is
    (subst (λ (r : IwStep). ReadsOn (step_of r) o n c.args.meter.now c.advance.new.meter) c.in-Refused.is reads)

pub returns-in-OutOfMemory-clause-answers : goal.returns-in-OutOfMemory-clause-answers
returns-in-OutOfMemory-clause-answers c =
    let o : LayerState = record { image = c.self.inside.iw; page = c.self.inside.page_size; decisions = c.self.inside.count } in
    let n : LayerState = record { image = c.advance.new.self; page = c.self.inside.page_size; decisions = c.self.inside.count } in
    let e = c.advance.ensures in
    let laws : Laws = record {
      last = c.layers_go_on.ensures.last;
      decisions = c.layers_go_on.ensures.decisions;
      later = c.sizes_are_checked_first.ensures.later;
      untold = c.told_sizes_are_checked.ensures.untold;
      taken = c.told_sizes_are_checked.ensures.taken;
      refused = c.told_sizes_are_checked.ensures.refused;
    } in
    let adv : Advanced c.advance.result o n c.args.meter.now c.advance.new.meter = record {
      answers = e.answers;
      memory = e.out_of_memory;
      to_come = e.to_come;
      header = e.same_header;
      alike = record { table = e.table; limit = e.limit; page = refl };
    } in
    let reads : ReadsOn (step_of c.advance.result) o n c.args.meter.now c.advance.new.meter =
    image_reads laws c.advance.result o n c.args.meter.now c.advance.new.meter adv (λ width height is. let wrong = sym is ∙ c.in-OutOfMemory.is in cc) in
    subst (λ (it : LayerState). ReadsOn (step_of (iw.OutOfMemory)) it n c.args.meter.now c.advance.new.meter) c.self.view_is
    (subst (λ (r : IwStep). ReadsOn (step_of r) o n c.args.meter.now c.advance.new.meter) c.in-OutOfMemory.is reads)

pub read_on-requires-clause-told : goal.read_on-requires-clause-told
read_on-requires-clause-told c =
    let size : HasSize c.in-Sized.width c.in-Sized.height c.self.inside.iw.header c.advance.new.self.header =
    c.advance.ensures.sized c.in-Sized.width c.in-Sized.height c.in-Sized.is in
    subst (λ (h : Option Header). IsSome h) (sym size.known) refl

pub returns-then-is_none-clause-answers : goal.returns-then-is_none-clause-answers
returns-then-is_none-clause-answers c =
    let o : LayerState = record { image = c.self.inside.iw; page = c.self.inside.page_size; decisions = c.self.inside.count } in
    let m : LayerState = record { image = c.advance.new.self; page = c.self.inside.page_size; decisions = c.self.inside.count } in
    let e = c.advance.ensures in
    let laws : Laws = record {
      last = c.layers_go_on.ensures.last;
      decisions = c.layers_go_on.ensures.decisions;
      later = c.sizes_are_checked_first.ensures.later;
      untold = c.told_sizes_are_checked.ensures.untold;
      taken = c.told_sizes_are_checked.ensures.taken;
      refused = c.told_sizes_are_checked.ensures.refused;
    } in
    let adv : Advanced c.advance.result o m c.args.meter.now c.advance.new.meter = record {
      answers = e.answers;
      memory = e.out_of_memory;
      to_come = e.to_come;
      header = e.same_header;
      alike = record { table = e.table; limit = e.limit; page = refl };
    } in
    let sized : Advanced (iw.Sized c.in-Sized.width c.in-Sized.height) o m c.args.meter.now c.advance.new.meter =
    subst (λ (r : IwStep). Advanced r o m c.args.meter.now c.advance.new.meter) c.in-Sized.is adv in
    let size : HasSize c.in-Sized.width c.in-Sized.height o.image.header m.image.header = e.sized c.in-Sized.width c.in-Sized.height c.in-Sized.is in
    let misfit : is_some (reduction_of o.page (c.in-Sized.width, c.in-Sized.height)) ≡ false =
    sym (ap (λ (r : Option ℕ). is_some r) c.reduction.ensures) ∙ c.is_none.ensures ∙ ap not c.if-is_none.true in
    subst (λ (it : LayerState). ReadsOn (step.Refused fault.LayerSize) it m c.args.meter.now c.advance.new.meter) c.self.view_is
    (misfit_on laws c.in-Sized.width c.in-Sized.height o m c.args.meter.now c.advance.new.meter sized size misfit)

pub returns-then-is_none-clause-kept : goal.returns-then-is_none-clause-kept
returns-then-is_none-clause-kept c =
    let o : LayerState = record { image = c.self.inside.iw; page = c.self.inside.page_size; decisions = c.self.inside.count } in
    let m : LayerState = record { image = c.advance.new.self; page = c.self.inside.page_size; decisions = c.self.inside.count } in
    let e = c.advance.ensures in
    let laws : Laws = record {
      last = c.layers_go_on.ensures.last;
      decisions = c.layers_go_on.ensures.decisions;
      later = c.sizes_are_checked_first.ensures.later;
      untold = c.told_sizes_are_checked.ensures.untold;
      taken = c.told_sizes_are_checked.ensures.taken;
      refused = c.told_sizes_are_checked.ensures.refused;
    } in
    let adv : Advanced c.advance.result o m c.args.meter.now c.advance.new.meter = record {
      answers = e.answers;
      memory = e.out_of_memory;
      to_come = e.to_come;
      header = e.same_header;
      alike = record { table = e.table; limit = e.limit; page = refl };
    } in
    let sized : Advanced (iw.Sized c.in-Sized.width c.in-Sized.height) o m c.args.meter.now c.advance.new.meter =
    subst (λ (r : IwStep). Advanced r o m c.args.meter.now c.advance.new.meter) c.in-Sized.is adv in
    let size : HasSize c.in-Sized.width c.in-Sized.height o.image.header m.image.header = e.sized c.in-Sized.width c.in-Sized.height c.in-Sized.is in
    subst (λ (it : LayerState). KeepsOpen (step.Refused fault.LayerSize) it m) c.self.view_is
    (record {
      whole = λ h. cc;
      closed = λ h. cc;
      told = λ h. absurd cc;
      still_open = λ h. sized.to_come;
      table = e.table;
      limit = e.limit;
      page = refl;
    })

pub returns-else-is_none-clause-answers : goal.returns-else-is_none-clause-answers
returns-else-is_none-clause-answers c =
    let o : LayerState = record { image = c.self.inside.iw; page = c.self.inside.page_size; decisions = c.self.inside.count } in
    let m : LayerState = record { image = c.advance.new.self; page = c.self.inside.page_size; decisions = c.self.inside.count } in
    let e = c.advance.ensures in
    let laws : Laws = record {
      last = c.layers_go_on.ensures.last;
      decisions = c.layers_go_on.ensures.decisions;
      later = c.sizes_are_checked_first.ensures.later;
      untold = c.told_sizes_are_checked.ensures.untold;
      taken = c.told_sizes_are_checked.ensures.taken;
      refused = c.told_sizes_are_checked.ensures.refused;
    } in
    let adv : Advanced c.advance.result o m c.args.meter.now c.advance.new.meter = record {
      answers = e.answers;
      memory = e.out_of_memory;
      to_come = e.to_come;
      header = e.same_header;
      alike = record { table = e.table; limit = e.limit; page = refl };
    } in
    let sized : Advanced (iw.Sized c.in-Sized.width c.in-Sized.height) o m c.args.meter.now c.advance.new.meter =
    subst (λ (r : IwStep). Advanced r o m c.args.meter.now c.advance.new.meter) c.in-Sized.is adv in
    let size : HasSize c.in-Sized.width c.in-Sized.height o.image.header m.image.header = e.sized c.in-Sized.width c.in-Sized.height c.in-Sized.is in
    let fits : is_some (reduction_of o.page (c.in-Sized.width, c.in-Sized.height)) ≡ true =
    sym (ap (λ (r : Option ℕ). is_some r) c.reduction.ensures) ∙ c.is_none.ensures ∙ ap not c.if-is_none.false in
    subst (λ (it : LayerState). ReadsOn c.read_on.result it c.read_on.new.self c.args.meter.now c.read_on.new.meter) c.self.view_is
    (sized_on laws c.in-Sized.width c.in-Sized.height c.read_on.result o m c.read_on.new.self c.args.meter.now c.advance.new.meter c.read_on.new.meter
    sized size fits c.self.invariant c.read_on.ensures.answers)

pub returns-else-is_none-clause-kept : goal.returns-else-is_none-clause-kept
returns-else-is_none-clause-kept c =
    let o : LayerState = record { image = c.self.inside.iw; page = c.self.inside.page_size; decisions = c.self.inside.count } in
    let m : LayerState = record { image = c.advance.new.self; page = c.self.inside.page_size; decisions = c.self.inside.count } in
    let e = c.advance.ensures in
    let laws : Laws = record {
      last = c.layers_go_on.ensures.last;
      decisions = c.layers_go_on.ensures.decisions;
      later = c.sizes_are_checked_first.ensures.later;
      untold = c.told_sizes_are_checked.ensures.untold;
      taken = c.told_sizes_are_checked.ensures.taken;
      refused = c.told_sizes_are_checked.ensures.refused;
    } in
    let adv : Advanced c.advance.result o m c.args.meter.now c.advance.new.meter = record {
      answers = e.answers;
      memory = e.out_of_memory;
      to_come = e.to_come;
      header = e.same_header;
      alike = record { table = e.table; limit = e.limit; page = refl };
    } in
    let sized : Advanced (iw.Sized c.in-Sized.width c.in-Sized.height) o m c.args.meter.now c.advance.new.meter =
    subst (λ (r : IwStep). Advanced r o m c.args.meter.now c.advance.new.meter) c.in-Sized.is adv in
    let size : HasSize c.in-Sized.width c.in-Sized.height o.image.header m.image.header = e.sized c.in-Sized.width c.in-Sized.height c.in-Sized.is in
    subst (λ (it : LayerState). KeepsOpen c.read_on.result it c.read_on.new.self) c.self.view_is
    (keeps_both c.read_on.result o m c.read_on.new.self sized.to_come sized.alike c.read_on.ensures.kept)
