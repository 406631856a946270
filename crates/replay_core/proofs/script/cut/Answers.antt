use Rattle.std.proofs.Common.{sym, ◌∙◌, rules, tests}
use Rattle.std.specs.Prelude.{◌≡◌, ◌==◌, position}
use Rattle.std.proofs.lemmas.Iterator.{YieldsList-from_slice}
use Rattle.std.proofs.lemmas.Iterator.Search.{position_from_yields_List}
use Rattle.replay_core.proofs.Cutting.{cut_there, cut_nowhere}
use Rattle.replay_core.proofs.script.cut.Goals as goal

pub returns-in-Some-clause-parts : goal.returns-in-Some-clause-parts
returns-in-Some-clause-parts c =
    let found : c.position.result ≡ position (λ byte. byte == c.args.mark) c.args.bytes.now =
    position_from_yields_List (λ byte. byte == c.args.mark) _ _ _ c.position.ensures.ran
    (YieldsList-from_slice c.args.bytes.now cc) (λ x b q k. search (rules, tests)) in
    cut_there (λ byte. byte == c.args.mark) c.args.bytes.now c.in-Some.place (sym found ∙ c.in-Some.is)

pub returns-in-None-clause-parts : goal.returns-in-None-clause-parts
returns-in-None-clause-parts c =
    let found : c.position.result ≡ position (λ byte. byte == c.args.mark) c.args.bytes.now =
    position_from_yields_List (λ byte. byte == c.args.mark) _ _ _ c.position.ensures.ran
    (YieldsList-from_slice c.args.bytes.now cc) (λ x b q k. search (rules, tests)) in
    cut_nowhere (λ byte. byte == c.args.mark) c.args.bytes.now (sym found ∙ c.in-None.is)
