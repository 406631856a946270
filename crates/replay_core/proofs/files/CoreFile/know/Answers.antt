use Rattle.std.proofs.Common.{Some, sym, ap, ◌∙◌}
use Rattle.page_decoder.specs.FileReading.{mark_by}
use Rattle.replay_core.specs.declared.files.CoreFile.TheInside.{Inside}
use Rattle.replay_core.specs.CoreFiles.{FilePart}
use Rattle.replay_core.proofs.Filing.{becomes_known, becomes_faulty, stands_known}
use Rattle.replay_core.proofs.files.CoreFile.know.Goals as goal
use Rattle.replay_core.proofs.files.CoreFile.know.Goals.{then-not-is_clean, else-not-is_clean}

pub returns-in-Ok-clause-stands : goal.returns-in-Ok-clause-stands
returns-in-Ok-clause-stands c file gave mark known bytes = elim c.if-not-is_clean.branch [
  | then-not-is_clean w ↦ stands_known file gave c.args.outline _
      (ap (λ (i : Inside). i.reader) w.self-inside-is ∙ ap (λ (p : FilePart). p.reader) c.self.view_is ∙ c.requires.reading)
      (ap Some c.in-Ok.ensures.ok)
      (ap (λ (i : Inside). mark_by i.end) w.self-inside-is ∙ ap (λ (p : FilePart). mark_by p.end) c.self.view_is ∙ mark)
      (becomes_faulty file gave c.args.outline _ known (sym c.is_clean.ensures ∙ w.if-not-is_clean.true))
  | else-not-is_clean w ↦ stands_known file gave c.args.outline _
      (ap (λ (i : Inside). i.reader) w.self-inside-is ∙ ap (λ (p : FilePart). p.reader) c.self.view_is ∙ c.requires.reading)
      (ap Some c.in-Ok.ensures.ok)
      (ap (λ (i : Inside). mark_by i.end) w.self-inside-is ∙ ap (λ (p : FilePart). mark_by p.end) c.self.view_is ∙ mark)
      (becomes_known file gave c.args.outline _ known
      (ap (λ (i : Inside). i.bytes.items) w.self-inside-is ∙ ap (λ (p : FilePart). p.bytes) c.self.view_is ∙ bytes))
]
