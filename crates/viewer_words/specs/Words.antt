-- The words of a command: `draw [--table T] PAGE [PAGE ..]` or `info PAGE [PAGE ..]`.
use Rattle.std.specs.Prelude.{ℕ, Bool, not, ◌&&◌, ◌+◌, ◌-◌, List, [], ◌∷◌, ◌++◌, length, drop, Result, Ok, Err, nat_lt, codes, bytes_eq, if◌then◌else◌}
use Rattle.djvu_base.specs.Name.{is_listed}
use Rattle.viewer_words.specs.declared.commands.Command.{Command}
use Rattle.viewer_words.specs.declared.commands.Command.TheVariants.{Draw, Info}
use Rattle.viewer_words.specs.declared.options.CommandOption.{CommandOption}
use Rattle.viewer_words.specs.declared.options.CommandOption.TheVariants as option
use Rattle.viewer_words.specs.declared.options.OptionsRead.{OptionsRead}
use Rattle.viewer_words.specs.Options.{no_options, options_from, table_in}
use Rattle.viewer_words.specs.Tables.{is_file_word}

-- how many pages `draw` and `info` may name
unfoldable pub page_limit : ℕ
page_limit = 1_024

abbrev pub has_room : ℕ → List (List ℕ) → Bool
has_room limit pages = nat_lt (length pages) limit

-- a word fits after these pages: there is room for it, and it names a page that none of them is
abbrev pub fits_after : ℕ → List (List ℕ) → List ℕ → Bool
fits_after limit pages word = has_room limit pages && is_file_word word && not (is_listed pages word)

-- the pages of a command whose first ones are these: all words that follow, or the number of the first that doesn't fit;
-- the first page's word has the number `first`
abbrev pub pages_after : ℕ → ℕ → List (List ℕ) → List (List ℕ) → Result (List (List ℕ)) ℕ
pages_after limit first pages [] = Ok pages
pages_after limit first pages (word ∷ words) = if fits_after limit pages word then pages_after limit first (pages ++ word ∷ []) words else Err (first + length pages)

-- the pages that these words name, at most so many, of which the first, with the number `first`, must be there
abbrev pub pages_of : ℕ → ℕ → List (List ℕ) → Result (List (List ℕ)) ℕ
pages_of limit first [] = Err first
pages_of limit first (word ∷ words) = pages_after limit first [] (word ∷ words)

-- the command of these pages, or the same refusal
abbrev pub command_of : (List (List ℕ) → Command) → Result (List (List ℕ)) ℕ → Result Command ℕ
command_of make (Ok pages) = Ok (make pages)
command_of make (Err number) = Err number

abbrev pub draw_options : List CommandOption
draw_options = option.Table ∷ []

-- the words after the options, where the first of the words has the number 1
abbrev pub after_options : OptionsRead → List (List ℕ) → List (List ℕ)
after_options read words = drop (read.next - 1) words

abbrev pub drawing_by : Result OptionsRead ℕ → List (List ℕ) → Result Command ℕ
drawing_by (Ok read) words = command_of (Draw (table_in read.options)) (pages_of page_limit read.next (after_options read words))
drawing_by (Err number) words = Err number

-- the drawing that the words after `draw` say
abbrev pub drawing_of : List (List ℕ) → Result Command ℕ
drawing_of words = drawing_by (options_from 1 draw_options no_options words) words

-- the command that words are, or the number, from 0, of the first word that doesn't fit, which is the number of words
-- where one is missing
abbrev pub words_of : List (List ℕ) → Result Command ℕ
words_of [] = Err 0
words_of (word ∷ words) =
    if bytes_eq word (codes "draw") then drawing_of words
    else if bytes_eq word (codes "info") then command_of Info (pages_of page_limit 1 words)
    else Err 0

-- the pages of a command
abbrev pub pages_in : Command → List (List ℕ)
pages_in (Draw table pages) = pages
pages_in (Info pages) = pages
