-- How a core stands to a state of the machine and to what was decoded, and what its steps come to.
use Rattle.std.specs.Prelude.{ℕ, ◌≡◌, ◌≢◌, ◌≤◌, ◌<◌, ⊤, true, false, List, length, map, Option, Some, None, slice_get, ◌⊎◌, ◌^◌}
use Rattle.djvu_base.specs.declared.faults.Fault.{Fault}
use Rattle.djvu_base.specs.Library.{File, Library}
use Rattle.djvu_base.specs.Meter.{ticked}
use Rattle.djvu_base.specs.Name.{IsAscending}
use Rattle.zp_table.specs.declared.rows.Row.{Row}
use Rattle.zp_table.specs.Rows.{IsTable}
use Rattle.jb2_records.specs.declared.results.FileResult.{FileResult}
use Rattle.page_decoder.specs.Decoder.{RiseTogether}
use Rattle.page_decoder.specs.PageRead.{NeedBytes, NeedFile, Finished, Refused}
use Rattle.page_decoder.specs.Results.{Result}
use Rattle.page_decoder.specs.Resolving.{given_at, result_in, result_from}
use Rattle.page_decoder.specs.Libraries.{names_in, run, res_of, is_reached}
use Rattle.page_decoder.specs.Needs.{Built}
use Rattle.replay_core.specs.declared.core_calls.CoreStep.{CoreStep}
use Rattle.replay_core.specs.declared.core_calls.CoreStep.TheVariants as step
use Rattle.replay_core.specs.declared.pages.CoreEnd.{CoreEnd}
use Rattle.replay_core.specs.declared.pages.CoreEnd.TheVariants as core_end
use Rattle.replay_core.specs.Counts.{PageCount, Counts, counted, step_decisions, CountsWithin}
use Rattle.replay_core.specs.CoreFiles.{FilePart, FileStands, IsEmpty}
use Rattle.replay_core.specs.CorePages.{PagePart, PageSeen, seen_of, Fails, PageStands, IsBegun}
use Rattle.replay_core.specs.Machine.{PageState, State, Step, Answer, Drew, AtEnd, state_after, answer}

-- ---- what contracts see of a core

-- what only the core itself reads: what it keeps of files and pages, and what files gave that were decoded
pub record CoreParts : Type 0 where
  pub files : List FilePart
  pub pages : List PagePart
  pub results : List (Option FileResult)

pub record CoreSeen : Type 0 where
  pub table : List Row
  pub names : List (List ℕ)
  pub pages : List PageSeen
  pub inside : CoreParts

abbrev pub core_of : List Row → List (List ℕ) → CoreParts → CoreSeen
core_of table names parts = record { table = table; names = names; pages = map seen_of parts.pages; inside = parts }

-- each page is found by its file, and takes bytes while that is open
pub record IsPlaced (number : ℕ) (page : PagePart) (file : FilePart) : Type 0 where
  pub found : file.page ≡ Some number
  pub open_ : file.end ≡ None → page.closed ≡ false

-- a file that is told a page is the file of that page
pub record IsPageOf (pages : List PagePart) (number file : ℕ) : Type 0 where
  pub page : PagePart
  pub is_page : slice_get pages number ≡ Some page
  pub its_file : page.file ≡ file

-- what a core keeps to
pub record IsCore (names : List (List ℕ)) (parts : CoreParts) : Type 0 where
  pub ascending : IsAscending names
  pub few : length names < 2 ^ 32
  pub files : length parts.files ≡ length names
  pub results : length parts.results ≡ length names
  pub below : (number : ℕ) (page : PagePart) → slice_get parts.pages number ≡ Some page → page.file < length names
  pub found : (number page : ℕ) (file : FilePart) → slice_get parts.files number ≡ Some file → file.page ≡ Some page
      → IsPageOf parts.pages page number
  pub placed : (number : ℕ) (page : PagePart) (file : FilePart) → slice_get parts.pages number ≡ Some page
      → slice_get parts.files page.file ≡ Some file → IsPlaced number page file

-- pages of files that differ
abbrev pub AreApart : List ℕ → Type 0
AreApart files = (one other file : ℕ) → slice_get files one ≡ Some file → slice_get files other ≡ Some file → one ≡ other

-- ---- how it begins

-- of so many files no byte came, and none is told a page
pub record AreEmpty (count : ℕ) (files : List FilePart) : Type 0 where
  pub many : length files ≡ count
  pub empty : (number : ℕ) (file : FilePart) → slice_get files number ≡ Some file → IsEmpty file × (file.page ≡ None)

-- the pages of these files, in their order, of which no byte came, and all files
pub record ArePages (table : List Row) (names : List (List ℕ)) (count : ℕ) (numbers : List ℕ) (pages : List PagePart) (files : List FilePart) :
    Type 0 where
  pub many : length pages ≡ length numbers
  pub begun : (place file : ℕ) (page : PagePart) → slice_get numbers place ≡ Some file → slice_get pages place ≡ Some page → IsBegun table names file page
  pub file_count : length files ≡ count
  pub empty : (number : ℕ) (file : FilePart) → slice_get files number ≡ Some file → IsEmpty file
  pub placed : (place number : ℕ) (file : FilePart) → place < length pages → slice_get numbers place ≡ Some number
      → slice_get files number ≡ Some file → file.page ≡ Some place
  pub found : (number place : ℕ) (file : FilePart) → slice_get files number ≡ Some file → file.page ≡ Some place → place < length pages
  pub its : (number place : ℕ) (file : FilePart) → slice_get files number ≡ Some file → file.page ≡ Some place → slice_get numbers place ≡ Some number

-- ---- how it stands

-- what each file is known to give
abbrev pub results_by : List (Option FileResult) → ℕ → Option Result
results_by results file = result_from (given_at (slice_get results file))

-- a file that was decoded is counted. One whose decoding found no memory counts as far as it came
pub record IsCounted (table : List Row) (library : Library) (file : ℕ) (gave : FileResult) (count : Option ℕ) : Type 0 where
  pub decisions : ℕ
  pub is : count ≡ Some decisions
  pub whole : (result : Result) → result_in gave ≡ Some result → decisions ≡ (res_of table library file).decisions

abbrev pub CountedBy : List Row → Library → ℕ → Option FileResult → Option ℕ → Type 0
CountedBy table library file None count = count ≡ None
CountedBy table library file (Some gave) count = IsCounted table library file gave count

-- a page of the state, and what was counted of it
pub record PageAt (table : List Row) (state : State) (counts : Counts) (results : ℕ → Option Result) (number : ℕ) (part : PagePart) : Type 0 where
  pub page : PageState
  pub is_page : slice_get state.pages number ≡ Some page
  pub count : PageCount
  pub is_count : slice_get counts.pages number ≡ Some count
  pub stands : PageStands table state.library results page count part

pub record StandsSo (state : State) (counts : Counts) (it : CoreSeen) : Type 0 where
  pub is_table : IsTable it.table
  pub seen : it.pages ≡ map seen_of it.inside.pages
  pub names : names_in state.library ≡ it.names
  pub places : length counts.files ≡ length it.names
  -- files
  pub files : (number : ℕ) (file : File) (part : FilePart) → slice_get state.library number ≡ Some file → slice_get it.inside.files number ≡ Some part
      → FileStands file (given_at (slice_get it.inside.results number)) part
  -- results, and what they cost
  pub built : Built it.table state.library (results_by it.inside.results)
  pub within : CountsWithin it.table state.library counts
  pub counted : (file : ℕ) (gave : Option FileResult) (count : Option ℕ) → slice_get it.inside.results file ≡ Some gave
      → slice_get counts.files file ≡ Some count → CountedBy it.table state.library file gave count
  -- pages
  pub state_pages : length state.pages ≡ length it.inside.pages
  pub count_pages : length counts.pages ≡ length it.inside.pages
  pub pages : (number : ℕ) (part : PagePart) → slice_get it.inside.pages number ≡ Some part
      → PageAt it.table state counts (results_by it.inside.results) number part

-- the core was fed what the library has, drew so many notices of each page, and decoded so much
unfoldable pub Stands : State → Counts → CoreSeen → Type 0
Stands state counts it = StandsSo state counts it

-- ---- what changes

-- the table and the names stay, and there are as many pages
pub record SameFrame (before after : CoreSeen) : Type 0 where
  pub table : after.table ≡ before.table
  pub names : after.names ≡ before.names
  pub count : length after.pages ≡ length before.pages

-- pages of other files than this one are as they were, and where it has a page, there may have been no memory for that
pub record OnlyFails (file : ℕ) (before after : List PageSeen) : Type 0 where
  pub others : (number : ℕ) (was is : PageSeen) → slice_get before number ≡ Some was → slice_get after number ≡ Some is → was.file ≢ file → is ≡ was
  pub its : (number : ℕ) (was is : PageSeen) → slice_get before number ≡ Some was → slice_get after number ≡ Some is → Fails was is

-- ---- answers

-- a step's answer is that of the machine, unless there was no memory
abbrev pub Answers : CoreStep → Answer → Type 0
Answers (step.Drew notice) told = told ≡ Drew notice
Answers step.NeedBytes told = told ≡ AtEnd NeedBytes
Answers (step.NeedFile file) told = told ≡ AtEnd (NeedFile file)
Answers step.Finished told = told ≡ AtEnd Finished
Answers (step.Refused fault) told = told ≡ AtEnd (Refused fault)
Answers step.OutOfMemory told = ⊤

-- an end that is answered again
abbrev pub answer_at : CoreEnd → CoreStep
answer_at core_end.Finished = step.Finished
answer_at (core_end.Refused fault) = step.Refused fault
answer_at core_end.OutOfMemory = step.OutOfMemory

-- how a page has ended, with this answer
abbrev pub end_with : CoreStep → Option CoreEnd
end_with (step.Drew notice) = None
end_with step.NeedBytes = None
end_with (step.NeedFile file) = None
end_with step.Finished = Some core_end.Finished
end_with (step.Refused fault) = Some (core_end.Refused fault)
end_with step.OutOfMemory = Some core_end.OutOfMemory

-- where there was no memory, nothing was drawn
abbrev pub state_with : CoreStep → List Row → State → ℕ → State
state_with (step.Drew notice) table state page = state_after table state (Step page)
state_with step.NeedBytes table state page = state_after table state (Step page)
state_with (step.NeedFile file) table state page = state_after table state (Step page)
state_with step.Finished table state page = state_after table state (Step page)
state_with (step.Refused fault) table state page = state_after table state (Step page)
state_with step.OutOfMemory table state page = state

-- the page's own decisions behind a step: up to what it tells. Where there was no memory they are no more than the page has
abbrev pub OwnAfter : CoreStep → List Row → Library → PageState → ℕ → ℕ → Type 0
OwnAfter (step.Drew notice) table library page before after = after ≡ step_decisions table library page
OwnAfter step.NeedBytes table library page before after = after ≡ step_decisions table library page
OwnAfter (step.NeedFile file) table library page before after = after ≡ step_decisions table library page
OwnAfter step.Finished table library page before after = after ≡ step_decisions table library page
OwnAfter (step.Refused fault) table library page before after = after ≡ step_decisions table library page
OwnAfter step.OutOfMemory table library page before after = (before ≤ after) × (after ≤ (run table library page.file).left.told.decisions)

-- each file is as it was, or it was decoded in this step, since the page reaches it. Where its decoding found no memory, it counts as far
-- as it came
pub data FileAfter (result : CoreStep) (table : List Row) (library : Library) (page file : ℕ) : Option ℕ → Option ℕ → Type 0 where
  as_it_was : (it : Option ℕ) → FileAfter result table library page file it it
  decoded : is_reached table library file page ≡ true → FileAfter result table library page file None (Some (res_of table library file).decisions)
  cut_off : (decisions : ℕ) → result ≡ step.OutOfMemory → is_reached table library file page ≡ true
      → decisions ≤ (res_of table library file).decisions → FileAfter result table library page file None (Some decisions)

-- a step on page number `page` that answers so, from this state and these counts
pub record Steps (state : State) (before : Counts) (page : ℕ) (old new : CoreSeen) (result : CoreStep) (count_old count_new : ℕ) : Type 0 where
  pub after : Counts
  pub stands : Stands (state_with result old.table state page) after new
  pub answers : Answers result (answer old.table state (Step page))
  -- decisions of the page's own, and those of the others
  pub own : (it : PageState) (was is : PageCount) → slice_get state.pages page ≡ Some it → slice_get before.pages page ≡ Some was
      → slice_get after.pages page ≡ Some is → OwnAfter result old.table state.library it was.decisions is.decisions
  pub others : (other : ℕ) → other ≢ page → slice_get after.pages other ≡ slice_get before.pages other
  -- each file once
  pub files : (file : ℕ) (was is : Option ℕ) (it : PageState) → slice_get state.pages page ≡ Some it → slice_get before.files file ≡ Some was
      → slice_get after.files file ≡ Some is → FileAfter result old.table state.library it.file file was is
  -- the meter rose by as much as was decoded, as far as it goes
  pub rise : RiseTogether (ticked (counted before) 0) (ticked (counted after) 0) count_old count_new

-- ---- what is told in the end

-- each page is finished or refused
abbrev pub AllOver : List PageSeen → Type 0
AllOver pages = (number : ℕ) (page : PageSeen) → slice_get pages number ≡ Some page
    → (page.end ≡ Some core_end.Finished) ⊎ ((fault : Fault) × (page.end ≡ Some (core_end.Refused fault)))

-- a page is finished or refused, and its layers weren't taken
pub record CanTake (pages : List PageSeen) (number : ℕ) : Type 0 where
  pub page : PageSeen
  pub is : slice_get pages number ≡ Some page
  pub over : (page.end ≡ Some core_end.Finished) ⊎ ((fault : Fault) × (page.end ≡ Some (core_end.Refused fault)))
  pub there : page.taken ≡ false

-- of one page the layers were taken, and nothing else that contracts see changed
pub record Takes (page : ℕ) (before after : CoreSeen) : Type 0 where
  pub same : SameFrame before after
  pub others : (other : ℕ) → other ≢ page → slice_get after.pages other ≡ slice_get before.pages other
  pub is : (it : PageSeen) → slice_get before.pages page ≡ Some it → slice_get after.pages page ≡ Some (record it { taken = true })
