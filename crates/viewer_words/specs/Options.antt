-- Options of a command, which stand between its word and the names of its files: in any order, each once, each with its value
-- in the next word.
use Rattle.std.specs.Prelude.{ℕ, Bool, not, ◌&&◌, ◌+◌, List, [], ◌∷◌, Option, Some, None, Result, Ok, Err, is_some, option_map, codes, bytes_eq}
use Rattle.std.specs.List.{find}
use Rattle.viewer_words.specs.declared.commands.TableChoice.{TableChoice}
use Rattle.viewer_words.specs.declared.commands.TableChoice.TheVariants as choice
use Rattle.viewer_words.specs.declared.options.CommandOption.{CommandOption}
use Rattle.viewer_words.specs.declared.options.CommandOption.TheVariants as option
use Rattle.viewer_words.specs.declared.options.GivenTable.{GivenTable}
use Rattle.viewer_words.specs.declared.options.Options.{Options}
use Rattle.viewer_words.specs.declared.options.OptionsRead.{OptionsRead}
use Rattle.viewer_words.specs.Tables.{table_of}

abbrev pub word_of : CommandOption → List ℕ
word_of option.Table = codes "--table"

abbrev pub no_options : Options
no_options = record { table = None }

abbrev pub is_given : Options → CommandOption → Bool
is_given options option.Table = is_some options.table

-- the options and one with this word as its value, or nothing where the word is no value of it
abbrev pub with_value : Options → CommandOption → ℕ → List ℕ → Option Options
with_value options option.Table number word = option_map (λ table. record { table = Some (record { table = table; number = number }) }) (table_of word)

-- the table, which is that of DjVu files where no option says one
abbrev pub table_by : Option GivenTable → TableChoice
table_by None = choice.Djvu
table_by (Some given) = given.table

abbrev pub table_in : Options → TableChoice
table_in options = table_by options.table

-- the allowed option of this word that isn't there yet
abbrev pub option_named : List CommandOption → Options → List ℕ → Option CommandOption
option_named allowed options word = find (λ option. not (is_given options option) && bytes_eq word (word_of option)) allowed

-- the options end before a word of no option; the value of one is missing where no word follows
abbrev pub last_option : Option CommandOption → ℕ → Options → Result OptionsRead ℕ
last_option None number options = Ok (record { options = options; next = number })
last_option (Some option) number options = Err (number + 1)

-- the options at the head of these words behind those that were read, or the number of the first word that is no value of its
-- option; the first of the words has this number
abbrev pub options_from : ℕ → List CommandOption → Options → List (List ℕ) → Result OptionsRead ℕ
options_from number allowed options [] = Ok (record { options = options; next = number })
options_from number allowed options (word ∷ []) = last_option (option_named allowed options word) number options
options_from number allowed options (word ∷ value ∷ words) =
    elim (option_named allowed options word) [
      | None ↦ Ok (record { options = options; next = number })
      | Some option ↦ elim (with_value options option (number + 1) value) [
        | None ↦ Err (number + 1)
        | Some more ↦ options_from (number + 2) allowed more words
      ]
    ]
