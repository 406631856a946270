-- The words after `draw`, by their first one.
use Rattle.std.proofs.Common.{◌≡◌, ℕ, Bool, true, false, cond, Option, Some, None, Result, Ok, Err, List, [], ◌∷◌, codes, option_map, refl, sym, ap, ◌∙◌}
use Rattle.std.specs.Str.{bytes_eq}
use Rattle.viewer_words.specs.declared.commands.Command.{Command}
use Rattle.viewer_words.specs.declared.commands.Command.TheVariants.{Draw}
use Rattle.viewer_words.specs.declared.commands.TableChoice.{TableChoice}
use Rattle.viewer_words.specs.declared.commands.TableChoice.TheVariants.{Djvu}
use Rattle.viewer_words.specs.declared.options.CommandOption.{CommandOption}
use Rattle.viewer_words.specs.declared.options.CommandOption.TheVariants as option
use Rattle.viewer_words.specs.declared.options.Options.{Options}
use Rattle.viewer_words.specs.declared.options.OptionsRead.{OptionsRead}
use Rattle.viewer_words.specs.Options.{no_options, last_option, options_from, with_value}
use Rattle.viewer_words.specs.Tables.{table_of}
use Rattle.viewer_words.specs.Words.{page_limit, pages_of, command_of, draw_options, drawing_by, drawing_of}

-- pages after a table's word, where that says a table
abbrev pub drawing_with : Option TableChoice → List (List ℕ) → Result Command ℕ
drawing_with (Some table) words = command_of (Draw table) (pages_of page_limit 3 words)
drawing_with None words = Err 2

-- words after `draw --table`
abbrev pub drawing_by_word : List (List ℕ) → Result Command ℕ
drawing_by_word [] = Err 2
drawing_by_word (word ∷ words) = drawing_with (table_of word) words

abbrev pub with_table : TableChoice → Options
with_table table = record { table = Some (record { table = table; number = 2 }) }

-- no option follows the table's
pub options_end : (table : TableChoice) (words : List (List ℕ)) → options_from 3 draw_options (with_table table) words ≡ Ok (record { options = with_table table; next = 3 })
options_end table [] = refl
options_end table (word ∷ []) = refl
options_end table (word ∷ value ∷ words) = refl

-- what is read by whether the first word is the option's
abbrev read_with : List (List ℕ) → Option Options → Result OptionsRead ℕ
read_with words with_one = elim with_one as (λ (_ : Option Options). Result OptionsRead ℕ) [ None ↦ Err 2 | Some more ↦ options_from 3 draw_options more words ]

abbrev read_by : List ℕ → List (List ℕ) → Bool → Result OptionsRead ℕ
read_by value words here =
    elim (cond here (Some option.Table) None) as (λ (_ : Option CommandOption). Result OptionsRead ℕ) [ None ↦ Ok (record { options = no_options; next = 1 }) | Some first ↦ read_with words (with_value no_options first 2 value) ]

abbrev last_by : Bool → Result OptionsRead ℕ
last_by here = last_option (cond here (Some option.Table) None) 1 no_options

-- no option stands before a word that isn't the option's
pub no_option : (word : List ℕ) (words : List (List ℕ)) → bytes_eq word (codes "--table") ≡ false → options_from 1 draw_options no_options (word ∷ words) ≡ Ok (record { options = no_options; next = 1 })
no_option word [] e = ap last_by e
no_option word (value ∷ words) e = ap (read_by value words) e

abbrev made : TableChoice → Options
made table = record { table = Some (record { table = table; number = 2 }) }

-- the option with its value
pub one_option : (word value : List ℕ) (words : List (List ℕ)) (table : TableChoice) → bytes_eq word (codes "--table") ≡ true → table_of value ≡ Some table
    → options_from 1 draw_options no_options (word ∷ value ∷ words) ≡ Ok (record { options = with_table table; next = 3 })
one_option word value words table e said = ap (read_by value words) e ∙ ap (λ (o : Option TableChoice). read_with words (option_map made o)) said ∙ options_end table words

lacks_value : (word value : List ℕ) (words : List (List ℕ)) → bytes_eq word (codes "--table") ≡ true → table_of value ≡ None → options_from 1 draw_options no_options (word ∷ value ∷ words) ≡ Err 2
lacks_value word value words e said = ap (read_by value words) e ∙ ap (λ (o : Option TableChoice). read_with words (option_map made o)) said

marked : (word : List ℕ) (words : List (List ℕ)) → bytes_eq word (codes "--table") ≡ true → drawing_of (word ∷ words) ≡ drawing_by_word words
marked word [] e = ap (λ t. drawing_by (last_by t) (word ∷ [])) e
marked word (value ∷ words) e = by (table_of value) refl
  where
    by : (said : Option TableChoice) → table_of value ≡ said → drawing_of (word ∷ value ∷ words) ≡ drawing_with (table_of value) words
    by (Some table) said = ap (λ r. drawing_by r (word ∷ value ∷ words)) (one_option word value words table e said) ∙ ap (λ t. drawing_with t words) (sym said)
    by None said = ap (λ r. drawing_by r (word ∷ value ∷ words)) (lacks_value word value words e said) ∙ ap (λ t. drawing_with t words) (sym said)

-- the words after `draw` are the option and its value, or pages alone
pub drawing_split : (word : List ℕ) (words : List (List ℕ)) → drawing_of (word ∷ words) ≡ cond (bytes_eq word (codes "--table")) (drawing_by_word words) (command_of (Draw Djvu) (pages_of page_limit 1 (word ∷ words)))
drawing_split word words = by (bytes_eq word (codes "--table")) refl
  where
    by : (t : Bool) → bytes_eq word (codes "--table") ≡ t → drawing_of (word ∷ words) ≡ cond t (drawing_by_word words) (command_of (Draw Djvu) (pages_of page_limit 1 (word ∷ words)))
    by true e = marked word words e
    by false e = ap (λ r. drawing_by r (word ∷ words)) (no_option word words e)
