use Rattle.std.proofs.Common.{◌≡◌, sym, ap, ◌∙◌}
use Rattle.djvu_base.specs.Library.{File, Open}
use Rattle.page_decoder.specs.FileReading.{mark_by}
use Rattle.replay_core.specs.CoreFiles.{FilePart}
use Rattle.replay_core.specs.Machine.{ended}
use Rattle.replay_core.proofs.Moving.{ended_on}
use Rattle.replay_core.proofs.Filing.{stands_on, ended_mark}
use Rattle.replay_core.proofs.files.CoreFile.close.Goals as goal

pub settle-requires-clause-unknown : goal.settle-requires-clause-unknown
settle-requires-clause-unknown c = c.self.invariant.unknown c.in-Some.reader (sym c.take.ensures.value ∙ c.in-Some.is)

pub returns-in_default-clause-stands : goal.returns-in_default-clause-stands
returns-in_default-clause-stands c file gave stands =
    let is_open : file.mark ≡ Open = sym stands.mark ∙ ap mark_by c.requires in
    stands_on c.outlines_stay.ensures.stays c.libraries_go_on.ensures.both file (ended c.args.how file) gave c.args.self.now _ (ended_on c.args.how file)
    (sym (ap (λ (p : FilePart). p.reader) c.self.view_is) ∙ sym c.take.ensures.value ∙ c.in_default.is)
    c.take.ensures.after
    (ap (λ (p : FilePart). p.outline) c.self.view_is) (ap (λ (p : FilePart). p.bytes) c.self.view_is)
    (ap (λ (f : File). f.mark) (sym (ended_mark c.args.how file is_open))) stands
