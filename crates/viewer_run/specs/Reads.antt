-- Which files a run reads after what stands before its pages, and in which order. Each is read whole, and once.
use Rattle.std.specs.Prelude.{ℕ, zero, suc, Bool, true, false, List, [], ◌∷◌, ◌++◌, length, map, Option, Some, None, if◌then◌else◌}
use Rattle.djvu_base.specs.Library.{File, Library}
use Rattle.zp_table.specs.declared.rows.Row.{Row}
use Rattle.include_graph.specs.Verdicts.{is_among}
use Rattle.page_decoder.specs.PageRead.{Ending, Finished, Refused, NeedBytes, NeedOutline, NeedFile}
use Rattle.page_decoder.specs.Libraries.{names_in, run}
use Rattle.replay_core.specs.Machine.{empty_file}
use Rattle.viewer_words.specs.Lines.{name_at}
use Rattle.viewer_run.specs.Plan.{Plan, Refuses, Draws, Lists}

-- a file, or what is known of it before it is read
abbrev pub file_once : Bool → File → File
file_once true file = file
file_once false file = empty_file file.name

-- a library of which only some files were read, by their numbers
abbrev pub known_by : (ℕ → Bool) → Library → Library
known_by is_read [] = []
known_by is_read (file ∷ library) = file_once (is_read zero) file ∷ known_by (λ number. is_read (suc number)) library

-- a library of which these files were read
abbrev pub after_reading : List ℕ → Library → Library
after_reading read library = known_by (λ number. is_among number read) library

-- the file that a page needs, where it needs one
abbrev pub needed_by : Ending → Option ℕ
needed_by Finished = None
needed_by (Refused fault) = None
needed_by NeedBytes = None
needed_by (NeedOutline file) = None
needed_by (NeedFile file) = Some file

abbrev pub and_needed : List ℕ → Option ℕ → List ℕ
and_needed read None = read
and_needed read (Some file) = read ++ file ∷ []

-- these files, and the one that the page needs once they were read
abbrev pub and_next : List Row → Library → ℕ → List ℕ → List ℕ
and_next rows library page read = and_needed read (needed_by (run rows (after_reading read library) page).end)

-- these files, and those that the page needs one after the other, at most so many
abbrev pub and_its_needs : List Row → Library → ℕ → ℕ → List ℕ → List ℕ
and_its_needs rows library page zero read = read
and_its_needs rows library page (suc count) read = and_its_needs rows library page count (and_next rows library page read)

-- a page's own file comes first, unless it was read before
abbrev pub and_page : ℕ → List ℕ → List ℕ
and_page page read = if is_among page read then read else read ++ page ∷ []

-- pages that are drawn, each with what it needs. No page needs more files than there are
abbrev pub and_pages : List Row → Library → List ℕ → List ℕ → List ℕ
and_pages rows library [] read = read
and_pages rows library (page ∷ pages) read = and_pages rows library pages (and_its_needs rows library page (length library) (and_page page read))

-- by their numbers, in the order in which they are read
abbrev pub read_behind : Library → Plan → List ℕ
read_behind library (Refuses line) = []
read_behind library (Draws rows pages) = and_pages rows library pages []
read_behind library (Lists pages) = pages

-- and by their names
abbrev pub names_behind : Library → Plan → List (List ℕ)
names_behind library plan = map (name_at (names_in library)) (read_behind library plan)
