use Rattle.std.proofs.Common.{ap, subst, ◌∙◌}
use Rattle.jb2_records.specs.Reading.{records_of}
use Rattle.jb2_records.specs.Library.{Keeps}
use Rattle.jb2_records.specs.Picture.{Draws}
use Rattle.jb2_records.specs.ReaderState.{ReaderState, Fed, input_of, IsDrawnFor}
use Rattle.jb2_records.proofs.Concluding.{finished_keeps, finished_draws, finished_drawn}
use Rattle.jb2_records.proofs.records.RecordReader.into_machine.Goals as goal

pub returns-clause-keeps : goal.returns-clause-keeps
returns-clause-keeps c payload =
    subst (λ (r : ReaderState). Fed payload r → Keeps (input_of r payload) (records_of (input_of r payload)).records c.self.inside.machine.library)
    c.self.view_is
    (finished_keeps c.self.inside.step c.self.inside.answer c.self.inside.machine (ap (λ (r : ReaderState). r.answered) c.self.view_is ∙ c.requires) payload)

pub returns-clause-draws : goal.returns-clause-draws
returns-clause-draws c payload =
    subst (λ (r : ReaderState). Fed payload r → Draws (input_of r payload) (records_of (input_of r payload)).records c.self.inside.machine.picture)
    c.self.view_is
    (finished_draws c.self.inside.step c.self.inside.answer c.self.inside.machine (ap (λ (r : ReaderState). r.answered) c.self.view_is ∙ c.requires) payload)

pub returns-clause-drawn : goal.returns-clause-drawn
returns-clause-drawn c =
    subst (λ (r : ReaderState). IsDrawnFor r.source.purpose c.self.inside.machine.picture) c.self.view_is
    (finished_drawn c.self.inside.step c.self.inside.answer c.self.inside.machine (ap (λ (r : ReaderState). r.answered) c.self.view_is
    ∙ c.requires) c.self.invariant)
