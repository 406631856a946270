use Rattle.std.proofs.Common.{◌≡◌, sym, ap, ◌∙◌}
use Rattle.djvu_base.specs.Library.{Open}
use Rattle.replay_core.specs.declared.pages.CorePage.TheInside.{Inside}
use Rattle.replay_core.specs.CorePages.{PagePart}
use Rattle.replay_core.proofs.Lasting.{PageLaws, page_laws}
use Rattle.replay_core.proofs.Arriving.{live_with, ended_with, ended_lives}
use Rattle.replay_core.proofs.pages.CorePage.close.Goals as goal
use Rattle.replay_core.proofs.pages.CorePage.close.Goals.{in-Some, in_default}

pub returns-clause-stands : goal.returns-clause-stands
returns-clause-stands c table library later results page count it is on before open_ after stands =
    let laws : PageLaws table = page_laws c.growth.ensures.notices c.libraries_go_on.ensures.given c.libraries_go_on.ensures.files
    c.libraries_go_on.ensures.told c.libraries_go_on.ensures.over table is in
    elim c.match-self.branch [
      | in-Some w ↦
          let open_there : w.in-Some.decoder.mark ≡ Open = c.self.invariant.open_ w.in-Some.decoder w.in-Some.is
          (ap (λ (p : PagePart). p.closed) c.self.view_is ∙ c.requires) in
          live_with table laws library later on results page count c.args.self.now _ w.in-Some.decoder w.end.new.self
          (ap (λ (i : Inside). i.file) w.self-inside-is ∙ ap (λ (p : PagePart). p.file) c.self.view_is)
          (ap (λ (i : Inside). i.last) w.self-inside-is ∙ ap (λ (p : PagePart). p.last) c.self.view_is)
          (ap (λ (i : Inside). i.decisions) w.self-inside-is ∙ ap (λ (p : PagePart). p.decisions) c.self.view_is)
          (sym (ap (λ (p : PagePart). p.decoder) c.self.view_is) ∙ w.in-Some.is)
          (ap (λ (i : Inside). i.decoder) w.self-inside-is)
          (ended_lives table laws library later on results page count c.args.how it w.in-Some.decoder w.end.new.self before open_ after
          (w.end.ensures.fed open_there) w.end.ensures.stays w.end.ensures.failed)
          stands
      | in_default w ↦ ended_with table laws library later on results page count c.args.self.now _
          (ap (λ (i : Inside). i.file) w.self-inside-is ∙ ap (λ (p : PagePart). p.file) c.self.view_is)
          (ap (λ (i : Inside). i.last) w.self-inside-is ∙ ap (λ (p : PagePart). p.last) c.self.view_is)
          (ap (λ (i : Inside). i.decisions) w.self-inside-is ∙ ap (λ (p : PagePart). p.decisions) c.self.view_is)
          (sym (ap (λ (p : PagePart). p.decoder) c.self.view_is) ∙ w.in_default.is)
          (ap (λ (i : Inside). i.decoder) w.self-inside-is ∙ w.in_default.is)
          (ap (λ (i : Inside). i.end) w.self-inside-is ∙ ap (λ (p : PagePart). p.end) c.self.view_is)
          (ap (λ (i : Inside). i.layers) w.self-inside-is ∙ ap (λ (p : PagePart). p.layers) c.self.view_is)
          (ap (λ (i : Inside). i.taken) w.self-inside-is ∙ ap (λ (p : PagePart). p.taken) c.self.view_is)
          stands
    ]
