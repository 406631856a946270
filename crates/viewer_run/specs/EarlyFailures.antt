-- Failures of what stands before the pages, of the listing and of the table's reading, and what is read after that.
use Rattle.std.specs.Prelude.{ℕ, Bool, true, false, not, ◌≡◌, ◌&&◌, ◌||◌, List, [], ◌∷◌, None, Result, Ok, Err, bytes_eq}
use Rattle.djvu_base.specs.Library.{Library}
use Rattle.djvu_base.specs.Name.{is_listed}
use Rattle.djvu_outside.specs.Cut.{first_entry, cut}
use Rattle.djvu_outside.specs.Faults.{Failure, Listing, Reading}
use Rattle.viewer_words.specs.declared.commands.Command.{Command}
use Rattle.viewer_words.specs.declared.commands.Command.TheVariants as command
use Rattle.viewer_words.specs.declared.commands.TableChoice.{TableChoice}
use Rattle.viewer_words.specs.declared.commands.TableChoice.TheVariants as choice
use Rattle.viewer_words.specs.Words.{words_of}
use Rattle.viewer_run.specs.Plan.{plan_of}
use Rattle.viewer_run.specs.Reads.{names_behind}

abbrev pub is_table : TableChoice → List ℕ → Bool
is_table choice.Djvu name = false
is_table choice.Flat name = false
is_table (choice.File table) name = bytes_eq name table

-- a file of this name is read as the table
abbrev pub names_table : Result Command ℕ → List ℕ → Bool
names_table (Ok (command.Draw table pages)) name = is_table table name
names_table (Ok (command.Info pages)) name = false
names_table (Err number) name = false

-- the names of the files that a run reads after what stands before its pages, where the folder failed so: those of its pages, and
-- those that these include
abbrev pub read_after : Library → List (List ℕ) → List Failure → List (List ℕ)
read_after library words failures = names_behind (cut failures library) (plan_of library words)

-- what failed first may have been the listing or the table's reading
abbrev pub front_may_fail : List (List ℕ) → List Failure → Bool
front_may_fail words [] = false
front_may_fail words (Listing ∷ failures) = true
front_may_fail words (Reading name count ∷ failures) = names_table (words_of words) name

-- what failed first was the listing or the table's reading, and can't have been a later one: a table's file may be a page
-- or be included as well, and is then read twice
abbrev pub front_failed : Library → List (List ℕ) → List Failure → Bool
front_failed library words [] = false
front_failed library words (Listing ∷ failures) = true
front_failed library words (Reading name count ∷ failures) =
    names_table (words_of words) name && not (is_listed (read_after library words (Reading name count ∷ failures)) name)

-- a reading that failed is that of the table, or of a file that is read after it
abbrev pub NamesRead : Library → List (List ℕ) → List Failure → Type 0
NamesRead library words failures =
    (name : List ℕ) → (names_table (words_of words) name || is_listed (read_after library words failures) name) ≡ false → first_entry failures name ≡ None
