-- What a run does, which stands before its pages: by the words, the listing, the number of names, the words that name files,
-- and the table.
use Rattle.std.specs.Prelude.{ℕ, zero, suc, Bool, true, false, List, [], ◌∷◌, length, map, Option, Some, None, Result, Ok, Err, nat_lt, bytes_eq, if◌then◌else◌}
use Rattle.djvu_base.specs.Library.{File, Library, file_named}
use Rattle.zp_table.specs.declared.rows.Row.{Row}
use Rattle.zp_table.specs.declared.faults.TableFault.{TableFault}
use Rattle.zp_table.specs.Listing.{djvu_rows, flat_rows}
use Rattle.zp_table.specs.Reading.{rows_in, fault_of, word_of}
use Rattle.page_decoder.specs.Libraries.{names_in}
use Rattle.viewer_words.specs.declared.commands.Command.{Command}
use Rattle.viewer_words.specs.declared.commands.Command.TheVariants as command
use Rattle.viewer_words.specs.declared.commands.TableChoice.{TableChoice}
use Rattle.viewer_words.specs.declared.commands.TableChoice.TheVariants as choice
use Rattle.viewer_words.specs.Words.{words_of}
use Rattle.viewer_words.specs.Files.{NamedFile, named_files, unlisted_line}
use Rattle.viewer_words.specs.Lines.{words_line, folder_line, table_line}

-- a run is refused by a line, draws pages with the rows of a state table, or lists the chunks of pages. Pages are numbers
-- among the names of the folder
pub data Plan : Type 0 where
  Refuses : List ℕ → Plan
  Draws : List Row → List ℕ → Plan
  Lists : List ℕ → Plan

-- the most names that a folder may have
abbrev pub name_limit : ℕ
name_limit = 1_024

-- why the files that words name don't fit these names, in a line, or nothing where they do: the number of names comes first
abbrev pub line_by_names : List (List ℕ) → List NamedFile → Option (List ℕ)
line_by_names names files = if nat_lt name_limit (length names) then Some (folder_line (length names)) else unlisted_line names files

-- a run is refused by the first line that there is
abbrev pub refused_or : Option (List ℕ) → Plan → Plan
refused_or (Some line) later = Refuses line
refused_or None later = later

abbrev pub bytes_of_found : Option File → List ℕ
bytes_of_found None = []
bytes_of_found (Some file) = file.bytes

-- the rows of the table in these bytes, or what is wrong with them
abbrev pub table_by : Option TableFault → List Row → Result (List Row) TableFault
table_by None rows = Ok rows
table_by (Some fault) rows = Err fault

abbrev pub table_in : List ℕ → Result (List Row) TableFault
table_in bytes = table_by (fault_of bytes) (rows_in bytes)

-- the table that the words choose
abbrev pub table_of : Library → TableChoice → Result (List Row) TableFault
table_of library choice.Djvu = Ok djvu_rows
table_of library choice.Flat = Ok flat_rows
table_of library (choice.File name) = table_in (bytes_of_found (file_named name library))

-- the number of a name among these, or how many they are where it isn't there
abbrev pub number_of : List (List ℕ) → List ℕ → ℕ
number_of [] name = zero
number_of (first ∷ names) name = if bytes_eq name first then zero else suc (number_of names name)

abbrev pub numbers_of : List (List ℕ) → List (List ℕ) → List ℕ
numbers_of names pages = map (number_of names) pages

abbrev pub plan_by_table : Result (List Row) TableFault → List ℕ → Plan
plan_by_table (Ok rows) pages = Draws rows pages
plan_by_table (Err fault) pages = Refuses (table_line fault.row (word_of fault.why))

-- the table is read where nothing else refuses the run
abbrev pub plan_of_draw : Library → List NamedFile → TableChoice → List (List ℕ) → Plan
plan_of_draw library files table pages =
    refused_or (line_by_names (names_in library) files) (plan_by_table (table_of library table) (numbers_of (names_in library) pages))

-- no table is chosen
abbrev pub plan_of_info : Library → List NamedFile → List (List ℕ) → Plan
plan_of_info library files pages = refused_or (line_by_names (names_in library) files) (Lists (numbers_of (names_in library) pages))

abbrev pub plan_of_command : Library → List NamedFile → Command → Plan
plan_of_command library files (command.Draw table pages) = plan_of_draw library files table pages
plan_of_command library files (command.Info pages) = plan_of_info library files pages

abbrev pub plan_by_words : Library → List NamedFile → Result Command ℕ → Plan
plan_by_words library files (Ok command) = plan_of_command library files command
plan_by_words library files (Err number) = Refuses (words_line number)

-- what a run with these words does over this library: it is refused for its words, for the number of names, for a file that
-- isn't listed, or for its table; or it draws or lists its pages
abbrev pub plan_of : Library → List (List ℕ) → Plan
plan_of library words = plan_by_words library (named_files words) (words_of words)

-- the pages of a plan
abbrev pub pages_of : Plan → List ℕ
pages_of (Refuses line) = []
pages_of (Draws rows pages) = pages
pages_of (Lists pages) = pages

-- the words ask for pages to be drawn
abbrev pub draws : Result Command ℕ → Bool
draws (Ok (command.Draw table pages)) = true
draws (Ok (command.Info pages)) = false
draws (Err number) = false

-- the words ask for nothing of the folder
abbrev pub asks_no_folder : Result Command ℕ → Bool
asks_no_folder (Ok (command.Draw table pages)) = false
asks_no_folder (Ok (command.Info pages)) = false
asks_no_folder (Err number) = true
