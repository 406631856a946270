-- How a run of one core over a folder stands: what was read, what the core was fed, and how pages are drawn by that.
use Rattle.std.specs.Prelude.{ℕ, suc, ◌≡◌, ◌≢◌, ◌<◌, ◌≤◌, ◌+◌, ◌++◌, ◌||◌, ◌⊎◌, ⊤, Bool, true, false, List, [], ◌∷◌, length, map, take, Option, Some, None, Result, Ok, Err, IfOk, slice_get}
use Rattle.djvu_base.specs.declared.ends.FileEnd.{FileEnd}
use Rattle.djvu_base.specs.declared.faults.Fault.{Fault}
use Rattle.djvu_base.specs.Library.{File, Files, Library, Open, file_limit, library_of}
use Rattle.djvu_base.specs.Meter.{ticked}
use Rattle.djvu_base.specs.Name.{IsAscending}
use Rattle.djvu_outside.specs.declared.stops.Stop.{Stop}
use Rattle.djvu_outside.specs.declared.stops.Stop.TheVariants as stop
use Rattle.djvu_outside.specs.Cut.{first_entry, cut}
use Rattle.djvu_outside.specs.Faults.{Failure}
use Rattle.djvu_outside.specs.FileReads.{is_broken, IsReadTo, CountsEnd}
use Rattle.djvu_outside.specs.Reading.{bytes_in}
use Rattle.zp_table.specs.declared.rows.Row.{Row}
use Rattle.zp_table.specs.Rows.{IsTable}
use Rattle.include_graph.specs.Verdicts.{is_among}
use Rattle.page_decoder.specs.Decoder.{RiseTogether}
use Rattle.page_decoder.specs.Libraries.{names_in, run, page_in, LibraryGoesOn}
use Rattle.page_decoder.specs.Needs.{IsOver}
use Rattle.page_decoder.specs.PageRead.{Ending, Finished, Refused, NeedFile}
use Rattle.replay_core.specs.Core.{Stands, SameFrame}
use Rattle.replay_core.specs.declared.pages.CoreEnd.{CoreEnd}
use Rattle.replay_core.specs.declared.pages.CoreEnd.TheVariants as core_end
use Rattle.replay_core.specs.CorePages.{PageSeen}
use Rattle.replay_core.specs.Counts.{Counts, counted}
use Rattle.replay_core.specs.Machine.{PageState, State, Feed, End, state_after, empty_file, page_notices}
use Rattle.viewer_words.specs.Lines.{name_at}
use Rattle.viewer_run.specs.declared.core_run.CoreRun.{CoreRun}
use Rattle.viewer_run.specs.declared.core_run.Halt.{Halt}
use Rattle.viewer_run.specs.declared.core_run.Halt.TheVariants as halt
use Rattle.viewer_run.specs.declared.texts.PageFound.{PageFound}
use Rattle.viewer_run.specs.Found.{shown_found}
use Rattle.viewer_run.specs.Reads.{after_reading, and_page, and_its_needs}
use Rattle.viewer_run.specs.Shown.{NamesOnly, lists_first, HasBroken, BrokenCounts}
use Rattle.viewer_run.specs.Texts.{lines_of}

-- the core was fed whole files, and ended them: those that were read, and no others
pub record Follows (state : State) (counts : Counts) (it : CoreRun) : Type 0 where
  pub names : names_in state.library ≡ it.names
  pub core_names : it.core.names ≡ it.names
  pub ascending : IsAscending it.names
  pub flags : length it.read.items ≡ length it.names
  pub table : IsTable it.core.table
  pub stands : Stands state counts it.core
  pub closed : (number : ℕ) (file : File) → slice_get state.library number ≡ Some file → slice_get it.read.items number ≡ Some true → file.mark ≢ Open
  pub empty : (number : ℕ) (file : File) → slice_get state.library number ≡ Some file → slice_get it.read.items number ≡ Some false
      → file ≡ empty_file file.name
  pub pages : map (λ (page : PageState). page.file) state.pages ≡ it.pages
  pub count : length it.core.pages ≡ length it.pages
  pub below : (page file : ℕ) → slice_get it.pages page ≡ Some file → file < length it.names

-- a part that stops where there is no memory, and for nothing else
abbrev pub StopsForMemory : {T : Type 0} → Result T Stop → Type 0
StopsForMemory (Ok value) = ⊤
StopsForMemory (Err stop.Folder) = ⊥
StopsForMemory (Err stop.Sink) = ⊥
StopsForMemory (Err stop.Memory) = ⊤

-- what a run keeps through all of it
pub record SameRun (old new : CoreRun) : Type 0 where
  pub names : new.names ≡ old.names
  pub pages : new.pages ≡ old.pages
  pub frame : SameFrame old.core new.core

-- ---- files

-- a state after a whole file came
abbrev pub with_file : List Row → State → ℕ → List ℕ → FileEnd → State
with_file table state file bytes end = state_after table (state_after table state (Feed file bytes)) (End file end)

-- the reading of a file that wasn't read yet
pub record FileComes (told : Option Files) (file : ℕ) (state : State) (counts : Counts) (old new : CoreRun) (failures_old failures_new : List Failure)
    (faults_old faults_new : ℕ) : Type 0 where
  pub bytes : List ℕ
  pub end : FileEnd
  pub follows : Follows (with_file old.core.table state file bytes end) counts new
  pub same : SameRun old new
  pub pages : new.core.pages ≡ old.core.pages
  pub flagged : slice_get new.read.items file ≡ Some true
  pub others : (other : ℕ) → other ≢ file → slice_get new.read.items other ≡ slice_get old.read.items other
  pub broken : new.broken ≡ (old.broken || is_broken end)
  pub rises : CountsEnd end faults_old faults_new
  pub told_so : (files : Files) → told ≡ Some files
      → IsReadTo end bytes (take file_limit (bytes_in files (name_at old.names file))) (name_at old.names file) 0 failures_old failures_new

-- where there was no memory a file may have come, and the pages are as they were or have failed
pub record StopsBefore (told : Option Files) (file : ℕ) (old : CoreRun) (failures_old failures_new : List Failure) (faults_old faults_new : ℕ) : Type 0 where
  pub faults : faults_old ≤ faults_new
  pub failed : (files : Files) → told ≡ Some files
      → (added : List Failure) × (failures_new ≡ failures_old ++ added) × NamesOnly (map (name_at old.names) (file ∷ [])) added × (lists_first added ≡ false)

abbrev pub ComesSo : {T : Type 0} → Result T Stop → Option Files → ℕ → State → Counts → CoreRun → CoreRun → List Failure → List Failure → ℕ → ℕ → Type 0
ComesSo (Ok done) told file state counts old new failures_old failures_new faults_old faults_new =
    FileComes told file state counts old new failures_old failures_new faults_old faults_new
ComesSo (Err stop) told file state counts old new failures_old failures_new faults_old faults_new =
    StopsBefore told file old failures_old failures_new faults_old faults_new

-- the folder's count of faults rose where a reading failed, and such a run is broken from then on
abbrev pub FaultsSo : {T : Type 0} → Result T Stop → Bool → Bool → ℕ → ℕ → Type 0
FaultsSo (Ok done) old new before after = (failed : Bool) × (new ≡ (old || failed)) × BrokenCounts failed before after
FaultsSo (Err stop) old new before after = before ≤ after

-- failures of files that weren't read
abbrev pub OfUnread : List (List ℕ) → List ℕ → List Failure → Type 0
OfUnread names read failures = (number : ℕ) → is_among number read ≡ true → first_entry failures (name_at names number) ≡ None

-- what was read of a folder with these files so far, and with which failures since the start. `order` tells it of a library whose files
-- broke off: whatever fails later, it was these files, in this order
pub record ReadSo (files : Files) (start now : List Failure) (order : Library → List ℕ) (library : Library) (it : CoreRun) : Type 0 where
  pub added : List Failure
  pub grown : now ≡ start ++ added
  pub read : List ℕ
  pub library_so : library ≡ after_reading read (cut added (library_of files))
  pub flags_so : (number : ℕ) (flag : Bool) → slice_get it.read.items number ≡ Some flag → is_among number read ≡ flag
  pub below : (number : ℕ) → is_among number read ≡ true → number < length it.names
  pub only : NamesOnly (map (name_at it.names) read) added
  pub first : lists_first added ≡ false
  pub broken : HasBroken it.broken added
  pub order_so : (later : List Failure) → OfUnread it.names read later → order (cut (added ++ later) (library_of files)) ≡ read

-- the same where a run stopped: the failures are of files that it had come to, and what it had read of the library is what came of that
pub record StoppedSo (files : Files) (start now : List Failure) (order : Library → List ℕ) (names : List (List ℕ)) (library : Library) : Type 0 where
  pub added : List Failure
  pub grown : now ≡ start ++ added
  pub goes_on : LibraryGoesOn library (cut added (library_of files))
  pub only : NamesOnly (map (name_at names) (order (cut added (library_of files)))) added
  pub first : lists_first added ≡ false

-- ---- pages

-- a page that can be drawn: nothing of it was drawn yet, and it wasn't asked for its layers
pub record CanDraw (page : ℕ) (it : CoreRun) : Type 0 where
  pub state : State
  pub counts : Counts
  pub follows : Follows state counts it
  pub seen : PageSeen
  pub is : slice_get it.core.pages page ≡ Some seen
  pub open_ : seen.end ≡ None
  pub there : seen.taken ≡ false

-- and its file was read
pub record CanStep (page : ℕ) (it : CoreRun) : Type 0 where
  pub can : CanDraw page it
  pub file : ℕ
  pub is_file : slice_get it.pages page ≡ Some file
  pub read : slice_get it.read.items file ≡ Some true

-- where a page stands: it needs a file, or it has ended, with its fault or without
abbrev pub HaltsAt : Halt → Ending → Type 0
HaltsAt (halt.Need file) end = end ≡ NeedFile file
HaltsAt (halt.End None) end = end ≡ Finished
HaltsAt (halt.End (Some fault)) end = end ≡ Refused fault

-- how a core sees a page that stands so
abbrev pub end_at : Halt → Option CoreEnd
end_at (halt.Need file) = None
end_at (halt.End None) = Some core_end.Finished
end_at (halt.End (Some fault)) = Some (core_end.Refused fault)

-- the lines are those of the first so many notices of the page that this file is
abbrev pub LinesAre : List Row → Library → ℕ → ℕ → List ℕ → List ℕ → Type 0
LinesAre table library file drawn name lines = lines ≡ lines_of name (take drawn (page_notices table library file))

-- steps were taken on a page, of which this was drawn before: no file came meanwhile
pub record Stepped (table : List Row) (page : ℕ) (here : PageState) (state : State) (counts : Counts) (old new : CoreRun) (count_old count_new : ℕ)
    : Type 0 where
  pub after : State
  pub counted_so : Counts
  pub follows : Follows after counted_so new
  pub library : after.library ≡ state.library
  pub others : (other : ℕ) → other ≢ page → slice_get after.pages other ≡ slice_get state.pages other
  pub now : PageState
  pub is_now : slice_get after.pages page ≡ Some now
  pub file : now.file ≡ here.file
  pub table_so : new.core.table ≡ table
  pub names : new.names ≡ old.names
  pub pages : new.pages ≡ old.pages
  pub read : new.read.items ≡ old.read.items
  pub broken : new.broken ≡ old.broken
  pub count : length new.core.pages ≡ length old.core.pages
  pub others_seen : (other : ℕ) → other ≢ page → slice_get new.core.pages other ≡ slice_get old.core.pages other
  pub rise : RiseTogether (ticked (counted counts) 0) (ticked (counted counted_so) 0) count_old count_new

-- a page, whose file was read, was stepped up to where it stands in the library of now
pub record ToHalt (result : Result Halt Stop) (page : ℕ) (here : PageState) (state : State) (counts : Counts) (old new : CoreRun)
    (lines_old lines_new : List ℕ) (count_old count_new : ℕ) : Type 0 where
  pub stepped : Stepped old.core.table page here state counts old new count_old count_new
  pub halts : IfOk result (λ halt. HaltsAt halt (run old.core.table state.library here.file).end)
  pub all : IfOk result (λ halt. length (page_notices old.core.table state.library here.file) ≤ stepped.now.drawn)
  pub seen : (it : PageSeen) → slice_get old.core.pages page ≡ Some it
      → IfOk result (λ halt. slice_get new.core.pages page ≡ Some (record it { end = end_at halt }))
  pub lines : (name : List ℕ) → name ≡ name_at old.names here.file → LinesAre old.core.table state.library here.file here.drawn name lines_old
      → IfOk result (λ halt. LinesAre old.core.table state.library here.file stepped.now.drawn name lines_new)

-- how far the files go that a page needs: so many of them, behind its own
abbrev pub with_needs : List Row → ℕ → ℕ → (Library → List ℕ) → Library → List ℕ
with_needs table file count order library = and_its_needs table library file count (and_page file (order library))

-- files that weren't read yet
abbrev pub unread : List Bool → ℕ
unread [] = 0
unread (true ∷ flags) = unread flags
unread (false ∷ flags) = suc (unread flags)

-- a run that went on at one page
pub record WentOn (page : ℕ) (state : State) (counts : Counts) (old now : CoreRun) (count_old count_now : ℕ) : Type 0 where
  pub after : State
  pub counted_so : Counts
  pub follows : Follows after counted_so now
  pub same : SameRun old now
  pub goes_on : LibraryGoesOn state.library after.library
  pub others : (other : ℕ) → other ≢ page → slice_get after.pages other ≡ slice_get state.pages other
  pub others_seen : (other : ℕ) → other ≢ page → slice_get now.core.pages other ≡ slice_get old.core.pages other
  pub rise : RiseTogether (ticked (counted counts) 0) (ticked (counted counted_so) 0) count_old count_now

-- how far it has come with the page: each file that the page needed was read, and no other
pub record GoneTo (told : Option Files) (page file : ℕ) (state : State) (counts : Counts) (old now : CoreRun) (failures_old failures_now : List Failure)
    (count_old count_now : ℕ) : Type 0 where
  pub went : WentOn page state counts old now count_old count_now
  pub needs : ℕ
  pub few : needs + unread now.read.items ≤ length old.names
  pub read_so : (files : Files) (start : List Failure) (order : Library → List ℕ) → told ≡ Some files
      → ReadSo files start failures_old order state.library old
      → ReadSo files start failures_now (with_needs old.core.table file needs order) went.after.library now

-- a run that stopped at a page, behind what it was when it had come so far
pub record StopsAt (told : Option Files) (page file : ℕ) (state : State) (counts : Counts) (old : CoreRun) (failures_old failures_new : List Failure)
    (count_old count_new : ℕ) : Type 0 where
  pub mid : CoreRun
  pub went : WentOn page state counts old mid count_old count_new
  pub needs : ℕ
  pub few : needs ≤ length old.names
  pub stopped : (files : Files) (start : List Failure) (order : Library → List ℕ) → told ≡ Some files
      → ReadSo files start failures_old order state.library old
      → StoppedSo files start failures_new (with_needs old.core.table file needs order) old.names went.after.library

-- a page was drawn to its end in a library
pub record IsDrawnSo (table : List Row) (file : ℕ) (names : List (List ℕ)) (library : Library) (lines : List ℕ) (found : PageFound) : Type 0 where
  pub over : IsOver (run table library file).end
  pub shown : shown_found found.fault found.layers ≡ page_in table library file
  pub lines_so : lines ≡ lines_of (name_at names file) (page_notices table library file)

pub record DrawnTo (told : Option Files) (page file : ℕ) (state : State) (counts : Counts) (old new : CoreRun) (lines : List ℕ) (found : PageFound)
    (failures_old failures_new : List Failure) (count_old count_new : ℕ) : Type 0 where
  pub gone : GoneTo told page file state counts old new failures_old failures_new count_old count_new
  pub drawn : IsDrawnSo old.core.table file old.names gone.went.after.library lines found
  pub seen : (it : PageSeen) → slice_get new.core.pages page ≡ Some it
      → (it.end ≡ Some core_end.Finished) ⊎ ((fault : Fault) × (it.end ≡ Some (core_end.Refused fault)))

-- a page's own file was read, and nothing was drawn
pub record Opens (told : Option Files) (page file : ℕ) (state : State) (counts : Counts) (old new : CoreRun) (failures_old failures_new : List Failure)
    (count : ℕ) : Type 0 where
  pub gone : GoneTo told page file state counts old new failures_old failures_new count count
  pub pages : gone.went.after.pages ≡ state.pages

abbrev pub OpensSo : Result ⊤ Stop → Option Files → ℕ → ℕ → State → Counts → CoreRun → CoreRun → List Failure → List Failure → ℕ → Type 0
OpensSo (Ok done) told page file state counts old new failures_old failures_new count =
    Opens told page file state counts old new failures_old failures_new count
OpensSo (Err stop) told page file state counts old new failures_old failures_new count =
    StopsAt told page file state counts old failures_old failures_new count count

-- a page was drawn to its end, or the run stopped
abbrev pub ToEnd : Result PageFound Stop → Option Files → ℕ → ℕ → State → Counts → CoreRun → CoreRun → List ℕ → List Failure → List Failure → ℕ → ℕ → Type 0
ToEnd (Ok found) told page file state counts old new lines failures_old failures_new count_old count_new =
    DrawnTo told page file state counts old new lines found failures_old failures_new count_old count_new
ToEnd (Err stop) told page file state counts old new lines failures_old failures_new count_old count_new =
    StopsAt told page file state counts old failures_old failures_new count_old count_new
