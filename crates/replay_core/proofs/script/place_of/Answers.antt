use Rattle.std.proofs.Common.{sym, ◌∙◌, rules, tests}
use Rattle.std.specs.Prelude.{◌≡◌, ◌==◌, position}
use Rattle.std.proofs.lemmas.Iterator.{YieldsList-from_slice}
use Rattle.std.proofs.lemmas.Iterator.Search.{position_from_yields_List}
use Rattle.replay_core.proofs.script.place_of.Goals as goal

pub returns-in-Some : goal.returns-in-Some
returns-in-Some c =
    let found : c.position.result ≡ position (λ page. page == c.args.file) c.args.pages.now =
    position_from_yields_List (λ page. page == c.args.file) _ _ _ c.position.ensures.ran
    (YieldsList-from_slice c.args.pages.now cc) (λ x b q k. search (rules, tests)) in
    sym c.in-Some.is ∙ found

pub returns-in-None : goal.returns-in-None
returns-in-None c =
    let found : c.position.result ≡ position (λ page. page == c.args.file) c.args.pages.now =
    position_from_yields_List (λ page. page == c.args.file) _ _ _ c.position.ensures.ran
    (YieldsList-from_slice c.args.pages.now cc) (λ x b q k. search (rules, tests)) in
    sym c.in-None.is ∙ found
