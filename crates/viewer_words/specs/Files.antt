-- The files that the words of a command name.
use Rattle.std.specs.Prelude.{ℕ, ◌+◌, ◌≡◌, ⊤, List, [], ◌∷◌, Option, Some, None, Result, Ok, Err, option_map, slice_get, codes, bytes_eq, if◌then◌else◌}
use Rattle.djvu_base.specs.Name.{is_listed}
use Rattle.viewer_words.specs.declared.commands.Command.{Command}
use Rattle.viewer_words.specs.declared.commands.Command.TheVariants.{Draw, Info}
use Rattle.viewer_words.specs.declared.commands.TableChoice.{TableChoice}
use Rattle.viewer_words.specs.declared.commands.TableChoice.TheVariants as choice
use Rattle.viewer_words.specs.declared.options.GivenTable.{GivenTable}
use Rattle.viewer_words.specs.declared.options.OptionsRead.{OptionsRead}
use Rattle.viewer_words.specs.Lines.{words_line}
use Rattle.viewer_words.specs.Options.{no_options, options_from}
use Rattle.viewer_words.specs.Words.{draw_options, after_options}

-- the number of a word, and the name of a file that it is
abbrev pub NamedFile : Type 0
NamedFile = ℕ × List ℕ

-- names in words one after another
abbrev pub numbered : ℕ → List (List ℕ) → List NamedFile
numbered first [] = []
numbered first (name ∷ names) = (first, name) ∷ numbered (first + 1) names

abbrev pub table_file : ℕ → TableChoice → List NamedFile → List NamedFile
table_file number choice.Djvu files = files
table_file number choice.Flat files = files
table_file number (choice.File name) files = (number, name) ∷ files

-- the file of a table that an option says, before others
abbrev pub given_file : Option GivenTable → List NamedFile → List NamedFile
given_file None files = files
given_file (Some given) files = table_file given.number given.table files

abbrev pub files_by : Result OptionsRead ℕ → List (List ℕ) → List NamedFile
files_by (Ok read) words = given_file read.options.table (numbered read.next (after_options read words))
files_by (Err number) words = []

-- the files that a command's words name, in the order of the words
abbrev pub named_files : List (List ℕ) → List NamedFile
named_files [] = []
named_files (word ∷ words) =
    if bytes_eq word (codes "draw") then files_by (options_from 1 draw_options no_options words) words
    else if bytes_eq word (codes "info") then numbered 1 words
    else []

-- the number of the first word that names a file which isn't among these names
abbrev pub first_unlisted : List (List ℕ) → List NamedFile → Option ℕ
first_unlisted names [] = None
first_unlisted names (file ∷ files) = if is_listed names file.1 then first_unlisted names files else Some file.0

abbrev pub unlisted_line : List (List ℕ) → List NamedFile → Option (List ℕ)
unlisted_line names files = option_map words_line (first_unlisted names files)

-- the files of a command: a table's, and then its pages
abbrev pub table_before : TableChoice → List (List ℕ) → List (List ℕ)
table_before choice.Djvu pages = pages
table_before choice.Flat pages = pages
table_before (choice.File name) pages = name ∷ pages

abbrev pub files_in : Command → List (List ℕ)
files_in (Draw table pages) = table_before table pages
files_in (Info pages) = pages

-- each of these names is the word of its number
abbrev pub AreWords : List (List ℕ) → List NamedFile → Type 0
AreWords words [] = ⊤
AreWords words (file ∷ files) = (slice_get words file.0 ≡ Some file.1) × AreWords words files
