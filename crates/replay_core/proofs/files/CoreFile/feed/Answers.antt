use Rattle.std.proofs.Common.{sym, ap, ◌∙◌}
use Rattle.page_decoder.specs.FileReading.{mark_by}
use Rattle.replay_core.specs.CoreFiles.{FilePart}
use Rattle.replay_core.specs.Machine.{fed}
use Rattle.replay_core.proofs.Moving.{fed_on}
use Rattle.replay_core.proofs.Filing.{stands_on, fed_keeps}
use Rattle.replay_core.proofs.files.CoreFile.feed.Goals as goal

pub read-requires-clause-unknown : goal.read-requires-clause-unknown
read-requires-clause-unknown c = c.self.invariant.unknown c.in-Some.reader (sym c.take.ensures.value ∙ c.in-Some.is)

pub returns-in-None-clause-stands : goal.returns-in-None-clause-stands
returns-in-None-clause-stands c file gave stands =
    stands_on c.outlines_stay.ensures.stays c.libraries_go_on.ensures.both file (fed c.args.piece.now file) gave c.args.self.now _
    (fed_on c.args.piece.now file)
    (sym (ap (λ (p : FilePart). p.reader) c.self.view_is) ∙ sym c.take.ensures.value ∙ c.in-None.is)
    c.take.ensures.after
    (ap (λ (p : FilePart). p.outline) c.self.view_is) (ap (λ (p : FilePart). p.bytes) c.self.view_is)
    (ap (λ (p : FilePart). mark_by p.end) c.self.view_is ∙ stands.mark ∙ sym (fed_keeps c.args.piece.now file)) stands
