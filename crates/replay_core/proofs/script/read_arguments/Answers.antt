use Rattle.std.proofs.Common.{◌≡◌, [], ◌∷◌, Option, IfOk, subst}
use Rattle.replay_core.specs.declared.script.ScriptLine.{ScriptLine}
use Rattle.replay_core.specs.Script.{words_of}
use Rattle.replay_core.proofs.Cutting.{two_words, more_words}
use Rattle.replay_core.proofs.script.read_arguments.Goals as goal

pub returns-in_default : goal.returns-in_default
returns-in_default c =
    let rest : words_of c.args.others.now ≡ c.cut.result.0.now ∷ [] = rw c.in_default.is at c.cut.ensures.parts in
    subst (λ (it : Option ScriptLine). IfOk c.read_two.result (λ said. said ≡ it))
    (two_words c.args.names.now c.args.pages.now c.args.word.now c.args.others.now c.cut.result.0.now rest) c.read_two.ensures

pub returns-in-Some-others : goal.returns-in-Some-others
returns-in-Some-others c =
    let rest : words_of c.args.others.now ≡ c.cut.result.0.now ∷ words_of c.in-Some.others.now = rw c.in-Some.is at c.cut.ensures.parts in
    let last : words_of c.in-Some.others.now ≡ c.cut-2.result.0.now ∷ words_of c.in-Some-others.field-0.now = rw c.in-Some-others.is at c.cut-2.ensures.parts in
    more_words c.args.names.now c.args.pages.now c.args.word.now c.args.others.now c.cut.result.0.now c.in-Some.others.now c.cut-2.result.0.now
    c.in-Some-others.field-0.now rest last
