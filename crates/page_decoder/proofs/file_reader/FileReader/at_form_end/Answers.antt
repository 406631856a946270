use Rattle.std.proofs.Common.{◌≡◌, true, false, Some, refl, sym, ap, subst, ◌∙◌}
use Rattle.djvu_base.specs.declared.faults.FaultKind.TheVariants as fault
use Rattle.include_graph.specs.Verdicts.{fault_at}
use Rattle.page_decoder.specs.declared.decoder.PageStep.TheVariants as step
use Rattle.page_decoder.specs.declared.file_reader.Stage.TheVariants as stage
use Rattle.page_decoder.specs.declared.file_reader.FileClose.TheVariants as close
use Rattle.page_decoder.specs.Resolving.{role_of}
use Rattle.page_decoder.specs.FileReading.{Answers}
use Rattle.page_decoder.specs.FileSteps.{IsFinishing, lacks_info}
use Rattle.page_decoder.proofs.Answering.{comes_same}
use Rattle.page_decoder.proofs.FileEnds.{lacks_here, finishes_here}
use Rattle.std.proofs.Common.{ap, ◌∙◌}
use Rattle.std.specs.Arc.{arc_value}
use Rattle.page_decoder.specs.Resolving.{home_of}
use Rattle.page_decoder.specs.declared.file_reader.FileReader.{FileReader}
use Rattle.page_decoder.proofs.file_reader.FileReader.at_form_end.Goals as goal

pub returns-then-lacks_info-clause-answers : goal.returns-then-lacks_info-clause-answers
returns-then-lacks_info-clause-answers c = λ given rest so k.
    let reader = c.args.self.now in
    let lacks : lacks_info (role_of reader.role) reader.chunks ≡ true =
    ap (λ d. lacks_info (role_of d.role) d.chunks) (sym c.drop_chunk.ensures) ∙ sym c.lacks_info.ensures ∙ c.if-lacks_info.true in
    subst (λ answer. Answers given rest answer reader c.drop_chunk.new.self) (sym c.refused.ensures)
    (subst (λ d. Answers given rest (step.Refused (fault_at fault.NoInfo d.file d.origin)) reader d) (sym c.drop_chunk.ensures)
    (lacks_here given rest close.Over reader k refl lacks))

pub returns-clause-answers : goal.returns-clause-answers
returns-clause-answers c = λ given rest so k.
    let reader = c.args.self.now in
    let goes : lacks_info (role_of reader.role) reader.chunks ≡ false =
    ap (λ d. lacks_info (role_of d.role) d.chunks) (sym c.drop_chunk.ensures) ∙ sym c.lacks_info.ensures ∙ c.if-lacks_info.false in
    let d = c.drop_chunk.new.self in
    comes_same given rest (Some c.finish.result) (record d { stage = stage.AtEnd }) reader c.finish.new.self
    (ap (λ d. d.drawn) c.drop_chunk.ensures)
    (c.finish.ensures.answers given rest so
    (subst (λ d. IsFinishing given rest (record d { stage = stage.AtEnd })) (sym c.drop_chunk.ensures)
    (finishes_here given rest close.Over reader k refl goes)))

pub returns-clause-home : goal.returns-clause-home
returns-clause-home c names = c.finish.ensures.home names ∙ ap (λ (r : FileReader). home_of r.role (arc_value r.table) names r.file) c.drop_chunk.ensures
