-- Scripts of `replay`: lines of words, each of which says what comes next. Words are parted by one space, and lines end with one
-- newline, which the last one may lack.
use Rattle.std.specs.Prelude.{ℕ, Bool, not, ◌&&◌, ◌+◌, ◌==◌, List, [], ◌∷◌, ◌++◌, length, Option, Some, None, Result, Ok, Err, nat_lt, nat_le, slice_index, option_map, position, codes, bytes_eq, if◌then◌else◌}
use Rattle.std.specs.List.{slice_split, onto_first}
use Rattle.std.specs.Str.{all_ascii_digits}
use Rattle.std.specs.Str.Parse.{digits_value}
use Rattle.djvu_base.specs.Library.{file_limit}
use Rattle.djvu_base.specs.Name.{is_name}
use Rattle.include_graph.specs.Verdicts.{number_of}
use Rattle.replay_core.specs.declared.script.ScriptLine.{ScriptLine}
use Rattle.replay_core.specs.declared.script.ScriptLine.TheVariants.{Feed, End, Step, Look}

-- how many lines a script may have
unfoldable pub line_limit : ℕ
line_limit = 65_536

-- the greatest number of a viewer
unfoldable pub last_viewer : ℕ
last_viewer = 63

-- ---- lines and words

-- a text that ends with a newline has no line behind it, and a text without bytes has none
abbrev pub lines_of : List ℕ → List (List ℕ)
lines_of [] = []
lines_of (byte ∷ bytes) = if byte == 0x0A then [] ∷ lines_of bytes else onto_first byte (lines_of bytes)

-- two spaces one after the other part words of which one is empty
abbrev pub words_of : List ℕ → List (List ℕ)
words_of line = slice_split (λ byte. byte == 0x20) line

-- ---- words

abbrev pub has_leading_zero : List ℕ → Bool
has_leading_zero word = nat_lt 1 (length word) && slice_index word 0 == 0x30

-- decimal digits without a sign, and without a zero before others
abbrev pub is_numeral : List ℕ → Bool
is_numeral word = all_ascii_digits word && nat_lt 0 (length word) && not (has_leading_zero word)

abbrev pub is_within : ℕ → ℕ → ℕ → Bool
is_within least most number = nat_le least number && nat_le number most

-- the number of these digits, where it lies within these bounds
abbrev pub number_within : ℕ → ℕ → List ℕ → Option ℕ
number_within least most word = if is_numeral word && is_within least most (digits_value 10 word) then Some (digits_value 10 word) else None

-- the file of this name, by its number among the names of the folder
abbrev pub file_of : List (List ℕ) → List ℕ → Option ℕ
file_of names word = if is_name word then number_of word names else None

abbrev pub page_at : List ℕ → Option ℕ → Option ℕ
page_at pages None = None
page_at pages (Some file) = position (λ page. page == file) pages

-- the page whose file has this name, by its place among the pages of the command
abbrev pub page_of : List (List ℕ) → List ℕ → List ℕ → Option ℕ
page_of names pages word = page_at pages (file_of names word)

-- ---- what lines say

abbrev pub of_both : (ℕ → ℕ → ScriptLine) → Option ℕ → Option ℕ → Option ScriptLine
of_both make None second = None
of_both make (Some first) second = option_map (make first) second

-- `end FILE` or `step PAGE`
abbrev pub line_of_two : List (List ℕ) → List ℕ → List ℕ → List ℕ → Option ScriptLine
line_of_two names pages word name =
    if bytes_eq word (codes "end") then option_map End (file_of names name)
    else if bytes_eq word (codes "step") then option_map Step (page_of names pages name)
    else None

-- `feed FILE N` or `look V PAGE`
abbrev pub line_of_three : List (List ℕ) → List ℕ → List ℕ → List ℕ → List ℕ → Option ScriptLine
line_of_three names pages word first second =
    if bytes_eq word (codes "feed") then of_both Feed (file_of names first) (number_within 1 file_limit second)
    else if bytes_eq word (codes "look") then of_both Look (number_within 0 last_viewer first) (page_of names pages second)
    else None

abbrev pub line_of_words : List (List ℕ) → List ℕ → List (List ℕ) → Option ScriptLine
line_of_words names pages [] = None
line_of_words names pages (word ∷ []) = None
line_of_words names pages (word ∷ name ∷ []) = line_of_two names pages word name
line_of_words names pages (word ∷ first ∷ second ∷ []) = line_of_three names pages word first second
line_of_words names pages (word ∷ first ∷ second ∷ third ∷ words) = None

-- what a line says over a folder of these names and a command with these pages, or nothing where it doesn't fit
abbrev pub line_of : List (List ℕ) → List ℕ → List ℕ → Option ScriptLine
line_of names pages line = line_of_words names pages (words_of line)

-- ---- scripts

-- a line behind so many others
abbrev pub line_after : List (List ℕ) → List ℕ → ℕ → List ℕ → Option ScriptLine
line_after names pages before line = if nat_lt before line_limit then line_of names pages line else None

-- what these lines say behind those that were read, or the number of the first that doesn't fit
abbrev pub lines_after : List (List ℕ) → List ℕ → List ScriptLine → List (List ℕ) → Result (List ScriptLine) ℕ
lines_after names pages read [] = Ok read
lines_after names pages read (line ∷ lines) =
    elim (line_after names pages (length read) line) [
      | None ↦ Err (length read + 1)
      | Some next ↦ lines_after names pages (read ++ next ∷ []) lines
    ]

-- what a script says, line by line, or the number, from 1, of its first line that doesn't fit
abbrev pub script_of : List (List ℕ) → List ℕ → List ℕ → Result (List ScriptLine) ℕ
script_of names pages bytes = lines_after names pages [] (lines_of bytes)
