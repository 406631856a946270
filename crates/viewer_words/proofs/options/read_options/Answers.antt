use Rattle.std.proofs.Common.{◌≡◌, ℕ, ◌+◌, List, ◌∷◌, length, ap, sym, ◌∙◌, arith}
use Rattle.viewer_words.specs.Options.{option_named, options_from, with_value}
use Rattle.viewer_words.proofs.OptionLemmas.{option_step}
use Rattle.viewer_words.proofs.options.read_options.Goals as goal

pub loop-word-preserved : goal.loop-word-preserved
loop-word-preserved c =
    let inv = c.loop-word.invariant in
    let number : ℕ = c.loop-word.next in
    let word : List ℕ = c.in-Some.word.now in
    let value : List ℕ = c.in-Some-split_first.value.now in
    let words : List (List ℕ) = c.in-Some-split_first.others.now in
    let all : c.loop-word.rest.now ≡ word ∷ value ∷ words = c.in-Some.ensures.cases.0 ∙ ap (λ (ws : List (List ℕ)). word ∷ ws) c.in-Some-split_first.ensures.cases.0 in
    let named = ap (λ (w : List ℕ). option_named c.args.allowed.now c.loop-word.options w) (sym c.slice.ensures) ∙ sym c.in-Some-option_named.ensures in
    let said = ap (λ (w : List ℕ). with_value c.loop-word.options c.in-Some-option_named.option (number + 1) w) (sym c.slice-in-Some.ensures) ∙ sym c.in_ok-more.ensures ∙ c.in-Some-2.is in
    let step = option_step number c.args.allowed.now c.loop-word.options c.in-Some-2.more word value words c.in-Some-option_named.option named said in
    record {
      left = sym step ∙ ap (options_from number c.args.allowed.now c.loop-word.options) (sym all) ∙ inv.left;
      begins = omega (arith, inv.begins);
      place = omega (arith, inv.place, ap length all);
    }
