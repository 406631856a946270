-- One option, and those after it.
use Rattle.std.proofs.Common.{◌≡◌, ℕ, ◌+◌, Option, Some, None, Result, Ok, Err, List, ◌∷◌, ap, ◌∙◌}
use Rattle.viewer_words.specs.declared.options.CommandOption.{CommandOption}
use Rattle.viewer_words.specs.declared.options.Options.{Options}
use Rattle.viewer_words.specs.declared.options.OptionsRead.{OptionsRead}
use Rattle.viewer_words.specs.Options.{option_named, options_from, with_value}

-- the options go on after one that has its value
pub option_step : (number : ℕ) (allowed : List CommandOption) (options more : Options) (word value : List ℕ) (words : List (List ℕ)) (option : CommandOption)
    → option_named allowed options word ≡ Some option → with_value options option (number + 1) value ≡ Some more → options_from number allowed options (word ∷ value ∷ words) ≡ options_from (number + 2) allowed more words
option_step number allowed options more word value words option named said =
    ap (λ (found : Option CommandOption). elim found as (λ (_ : Option CommandOption). Result OptionsRead ℕ) [
      | None ↦ Ok (record { options = options; next = number })
      | Some first ↦ elim (with_value options first (number + 1) value) as (λ (_ : Option Options). Result OptionsRead ℕ) [ None ↦ Err (number + 1) | Some next ↦ options_from (number + 2) allowed next words ]
    ]) named
    ∙ ap (λ (with_one : Option Options). elim with_one as (λ (_ : Option Options). Result OptionsRead ℕ) [ None ↦ Err (number + 1) | Some next ↦ options_from (number + 2) allowed next words ]) said
