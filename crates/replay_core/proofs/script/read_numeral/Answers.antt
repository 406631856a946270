use Rattle.std.proofs.Common.{◌≡◌, ℕ, List, false, sym, subst, ◌∙◌}
use Rattle.std.specs.Prelude.{◌==◌, slice_index}
use Rattle.std.specs.Str.Parse.{ParsesUnsigned}
use Rattle.replay_core.specs.Script.{has_leading_zero}
use Rattle.replay_core.specs.ScriptRead.{IsNumberOf}
use Rattle.replay_core.proofs.Cutting.{no_text_is_none, parsed}
use Rattle.replay_core.proofs.script.read_numeral.Goals as goal

pub returns-in-Ok : goal.returns-in-Ok
returns-in-Ok c =
    let word : List ℕ = c.args.word.now in
    let sign : (slice_index word 0 == 43) ≡ false = sym c.has_sign.ensures ∙ c.if-has_sign.false in
    let lead : has_leading_zero word ≡ false = sym c.has_leading_zero.ensures ∙ c.if-has_leading_zero.false in
    let told : ParsesUnsigned 32 10 word c.parse.result =
    subst (λ (w : List ℕ). ParsesUnsigned 32 10 w c.parse.result) c.in-Ok.ensures.cases.0 c.parse.ensures.value.0 in
    subst (IsNumberOf word) (sym c.ok.ensures.value) (parsed word c.parse.result sign lead told)

pub returns-in-Err : goal.returns-in-Err
returns-in-Err c = no_text_is_none c.args.word.now c.in-Err.ensures.cases.0
