-- Words that name files, and the word of a table.
use Rattle.std.specs.Prelude.{ℕ, Bool, not, ◌&&◌, List, Option, Some, None, codes, bytes_eq, nat_eq, if◌then◌else◌}
use Rattle.std.specs.List.{starts_with}
use Rattle.djvu_base.specs.Name.{is_name}
use Rattle.viewer_words.specs.declared.commands.TableChoice.{TableChoice}
use Rattle.viewer_words.specs.declared.commands.TableChoice.TheVariants.{Djvu, Flat, File}

-- a file is named by a name that isn't spelled like an option
abbrev pub is_file_word : List ℕ → Bool
is_file_word word = is_name word && not (starts_with nat_eq word (codes "--"))

-- the table of a word: `djvu` and `flat` are always the built-in ones, and any other word for a file is the table in that file
abbrev pub table_of : List ℕ → Option TableChoice
table_of word =
    if bytes_eq word (codes "djvu") then Some Djvu
    else if bytes_eq word (codes "flat") then Some Flat
    else if is_file_word word then Some (File word)
    else None
