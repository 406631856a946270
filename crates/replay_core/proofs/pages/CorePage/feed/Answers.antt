use Rattle.std.proofs.Common.{refl, sym, ap, ◌∙◌}
use Rattle.replay_core.specs.CorePages.{PagePart}
use Rattle.replay_core.proofs.Lasting.{PageLaws, page_laws}
use Rattle.replay_core.proofs.Arriving.{where_ok, live_with, lost_with, ended_with, fed_lives}
use Rattle.replay_core.proofs.pages.CorePage.feed.Goals as goal

pub returns-in_default-clause-stands : goal.returns-in_default-clause-stands
returns-in_default-clause-stands c table library later results page count it is on before open_ after stands =
    let laws : PageLaws table = page_laws c.growth.ensures.notices c.libraries_go_on.ensures.given c.libraries_go_on.ensures.files
    c.libraries_go_on.ensures.told c.libraries_go_on.ensures.over table is in
    ended_with table laws library later on results page count c.args.self.now _
    (ap (λ (p : PagePart). p.file) c.self.view_is) (ap (λ (p : PagePart). p.last) c.self.view_is)
    (ap (λ (p : PagePart). p.decisions) c.self.view_is)
    (sym (ap (λ (p : PagePart). p.decoder) c.self.view_is) ∙ c.in_default.is)
    c.in_default.is
    (ap (λ (p : PagePart). p.end) c.self.view_is) (ap (λ (p : PagePart). p.layers) c.self.view_is)
    (ap (λ (p : PagePart). p.taken) c.self.view_is) stands

pub returns-then-is_err-clause-stands : goal.returns-then-is_err-clause-stands
returns-then-is_err-clause-stands c table library later results page count it is on before open_ after stands =
    let laws : PageLaws table = page_laws c.growth.ensures.notices c.libraries_go_on.ensures.given c.libraries_go_on.ensures.files
    c.libraries_go_on.ensures.told c.libraries_go_on.ensures.over table is in
    lost_with table laws library later on results page count c.args.self.now _
    (ap (λ (p : PagePart). p.file) c.fail.ensures ∙ ap (λ (p : PagePart). p.file) c.self.view_is)
    (ap (λ (p : PagePart). p.last) c.fail.ensures ∙ ap (λ (p : PagePart). p.last) c.self.view_is)
    (ap (λ (p : PagePart). p.decisions) c.fail.ensures ∙ ap (λ (p : PagePart). p.decisions) c.self.view_is)
    (ap (λ (p : PagePart). p.decoder) c.fail.ensures) (ap (λ (p : PagePart). p.end) c.fail.ensures) stands

pub returns-else-is_err-clause-stands : goal.returns-else-is_err-clause-stands
returns-else-is_err-clause-stands c table library later results page count it is on before open_ after stands =
    let laws : PageLaws table = page_laws c.growth.ensures.notices c.libraries_go_on.ensures.given c.libraries_go_on.ensures.files
    c.libraries_go_on.ensures.told c.libraries_go_on.ensures.over table is in
    live_with table laws library later on results page count c.args.self.now _ c.in-Some.decoder c.feed-fed.new.self
    (ap (λ (p : PagePart). p.file) c.self.view_is) (ap (λ (p : PagePart). p.last) c.self.view_is)
    (ap (λ (p : PagePart). p.decisions) c.self.view_is)
    (sym (ap (λ (p : PagePart). p.decoder) c.self.view_is) ∙ c.in-Some.is)
    refl
    (fed_lives table laws library later on results page count c.args.piece.now it c.in-Some.decoder c.feed-fed.new.self before open_ after
    c.feed-fed.ensures.fed c.feed-fed.ensures.stays
    (where_ok _ c.feed-fed.result c.feed-fed.ensures.ok (sym c.is_err.ensures.value ∙ c.if-is_err.false)).0)
    stands
