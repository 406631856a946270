-- What a step of a core comes to on the way, while the decoder of its page is out of its place.
use Rattle.std.specs.Prelude.{ℕ, suc, ◌≡◌, ◌≢◌, ◌≤◌, ◌+◌, ⊤, true, false, List, length, map, sum_by, Option, Some, None, is_some, slice_get, slice_set, MatchOption, Result as Answered, Ok, Err}
use Rattle.std.specs.declared.alloc.AllocError.{AllocError}
use Rattle.djvu_base.specs.Announced.{Announced}
use Rattle.djvu_base.specs.Library.{Mark, Open, Whole, mark_of, Library}
use Rattle.djvu_base.specs.declared.ends.FileEnd.{FileEnd}
use Rattle.djvu_base.specs.Meter.{TicksExactly, ticked}
use Rattle.zp_table.specs.declared.rows.Row.{Row}
use Rattle.include_graph.specs.declared.outline.Outline.{Outline}
use Rattle.jb2_records.specs.declared.results.FileResult.{FileResult}
use Rattle.jb2_records.specs.declared.results.FileResult.TheVariants as gift
use Rattle.page_decoder.specs.Decoder.{KnowsOutline}
use Rattle.page_decoder.specs.Given.{Page, Known, Given, KnowsMore}
use Rattle.page_decoder.specs.Libraries.{names_in, outlines_in, bytes_in, mark_in, given_in, run, is_reached}
use Rattle.page_decoder.specs.PageFed.{Decoding, Fed}
use Rattle.page_decoder.specs.PageRead.{Ending, Finished, Refused, NeedBytes, NeedFile}
use Rattle.page_decoder.specs.Read.{FileDone, read, decode}
use Rattle.page_decoder.specs.FileDecoding.{KnowsResults, included}
use Rattle.page_decoder.specs.Resolving.{given_at, result_in}
use Rattle.page_decoder.specs.Results.{Result}
use Rattle.replay_core.specs.declared.core_calls.CoreStep.{CoreStep}
use Rattle.replay_core.specs.declared.core_calls.CoreStep.TheVariants as step
use Rattle.replay_core.specs.declared.pages.CoreEnd.TheVariants as core_end
use Rattle.replay_core.specs.Counts.{Counts, spent_on, step_decisions}
use Rattle.replay_core.specs.CoreFiles.{FilePart}
use Rattle.replay_core.specs.CorePages.{PagePart, seen_of}
use Rattle.replay_core.specs.Core.{CoreSeen, core_of, FileAfter, Stands, results_by}
use Rattle.replay_core.specs.Machine.{PageState, State, next_notice, layers_drawn}

-- ---- the page

-- a decoder was fed what the library has of a file, and given nothing that isn't known there
pub record Reads (table : List Row) (library : Library) (results : ℕ → Option Result) (file : ℕ) (decoder : Decoding) : Type 0 where
  pub given : Given
  pub fed : Fed given decoder
  pub home : given.home ≡ record { role = Page; table = table; names = names_in library; file = file }
  pub known : KnowsMore given.known (record { outlines = outlines_in library; results = results })
  pub bytes : given.bytes ≡ bytes_in (slice_get library file)
  pub mark : given.mark ≡ mark_in (slice_get library file)

-- it reads the page, and its decisions are those up to what the next step on the page tells
pub record TellsNext (table : List Row) (library : Library) (results : ℕ → Option Result) (page : PageState) (decoder : Decoding) : Type 0 where
  pub reads : Reads table library results page.file decoder
  pub decisions : TicksExactly (step_decisions table library page) 0 decoder.decisions
  pub works : decoder.failed ≡ false

-- it goes on, and drew nothing new
pub record Pauses (table : List Row) (library : Library) (results : ℕ → Option Result) (page : PageState) (decoder : Decoding) : Type 0 where
  pub reads : Reads table library results page.file decoder
  pub drawn : decoder.drawn ≡ page.drawn

-- this is the next notice
pub record Draws (table : List Row) (library : Library) (results : ℕ → Option Result) (page : PageState) (decoder : Decoding)
    (notice : Announced) : Type 0 where
  pub next : next_notice table library page ≡ Some notice
  pub drawn : decoder.drawn ≡ suc page.drawn
  pub tells : TellsNext table library results page decoder

-- no notice is left, and the reading of the page stands at this end
pub record Stops (table : List Row) (library : Library) (results : ℕ → Option Result) (page : PageState) (decoder : Decoding) (end : Ending) : Type 0 where
  pub none : next_notice table library page ≡ None
  pub end_is : (run table library page.file).end ≡ end
  pub drawn : decoder.drawn ≡ page.drawn
  pub tells : TellsNext table library results page decoder

-- the page is over: what each file gives that it reaches is known
pub record Ends (table : List Row) (library : Library) (results : ℕ → Option Result) (page : PageState) (decoder : Decoding) (end : Ending) : Type 0 where
  pub stops : Stops table library results page decoder end
  pub reached : (file : ℕ) → is_reached table library file page.file ≡ true → (result : Result) × (results file ≡ Some result)
  pub layers : decoder.layers ≡ layers_drawn table library page

-- what an answer tells, if there is one. Where there was no memory, no more decisions were read than the page has
abbrev pub ToldBy : Option CoreStep → List Row → Library → (ℕ → Option Result) → PageState → Decoding → Type 0
ToldBy None table library results page decoder = Pauses table library results page decoder
ToldBy (Some (step.Drew notice)) table library results page decoder = Draws table library results page decoder notice
ToldBy (Some step.NeedBytes) table library results page decoder = Stops table library results page decoder NeedBytes
ToldBy (Some (step.NeedFile file)) table library results page decoder = Stops table library results page decoder (NeedFile file)
ToldBy (Some step.Finished) table library results page decoder = Ends table library results page decoder Finished
ToldBy (Some (step.Refused fault)) table library results page decoder = Ends table library results page decoder (Refused fault)
ToldBy (Some step.OutOfMemory) table library results page decoder = decoder.decisions ≤ ticked (run table library page.file).left.told.decisions 0

-- ---- the core

abbrev pub answer_or : Option CoreStep → CoreStep
answer_or None = step.NeedBytes
answer_or (Some answer) = answer

-- what pages keep is the same, and the table and the names
pub record SamePages (before after : CoreSeen) : Type 0 where
  pub table : after.table ≡ before.table
  pub names : after.names ≡ before.names
  pub pages : after.inside.pages ≡ before.inside.pages

-- what was known of results stays known
abbrev pub KeepsResults : CoreSeen → CoreSeen → Type 0
KeepsResults before after = (file : ℕ) (result : Result) → results_by before.inside.results file ≡ Some result
    → results_by after.inside.results file ≡ Some result

-- files were decoded that this page reaches, with so many ticks of the meter
pub record Decodes (state : State) (before : Counts) (page : PageState) (answer : CoreStep) (old new : CoreSeen) (ticks : ℕ) : Type 0 where
  pub after : Counts
  pub stands : Stands state after new
  pub own : after.pages ≡ before.pages
  pub places : length after.files ≡ length before.files
  pub files : (file : ℕ) (was is : Option ℕ) → slice_get before.files file ≡ Some was → slice_get after.files file ≡ Some is
      → FileAfter answer old.table state.library page.file file was is
  pub count : TicksExactly ticks (ticked (sum_by spent_on before.files) 0) (ticked (sum_by spent_on after.files) 0)
  pub results : KeepsResults old new

-- the page's decoder went on, and files were decoded for it, up to this answer, if there is one
pub record Goes (state : State) (before : Counts) (page : PageState) (old new : CoreSeen) (was is : Decoding) (answer : Option CoreStep)
    (count_old count_new : ℕ) : Type 0 where
  pub own_ticks : ℕ
  pub file_ticks : ℕ
  pub decodes : Decodes state before page (answer_or answer) old new file_ticks
  pub own : TicksExactly own_ticks was.decisions is.decisions
  pub meter : TicksExactly (own_ticks + file_ticks) count_old count_new
  pub told : ToldBy answer old.table state.library (results_by new.inside.results) page is

-- the decoder of this page goes on, wherever the core stands
unfoldable pub GoesOn : CoreSeen → CoreSeen → Decoding → Decoding → Option CoreStep → ℕ → ℕ → Type 0
GoesOn old new was is answer count_old count_new = (state : State) (counts : Counts) (number : ℕ) (page : PageState) → Stands state counts old
    → slice_get state.pages number ≡ Some page → was.drawn ≡ page.drawn → Reads old.table state.library (results_by old.inside.results) page.file was
    → Goes state counts page old new was is answer count_old count_new

-- the page needs this file, by what the core knows, unless it knows what the file gives
abbrev pub NeedsFile : State → PageState → ℕ → CoreSeen → Type 0
NeedsFile state page file core = results_by core.inside.results file ≡ None
    → (read (given_in Page core.table state.library page.file (results_by core.inside.results))).end ≡ NeedFile file

-- the same, where the page needs this file, unless it is known what that gives, and no more decisions were read than the page has
unfoldable pub GoesWith : ℕ → CoreSeen → CoreSeen → Decoding → Decoding → Option CoreStep → ℕ → ℕ → Type 0
GoesWith file old new was is answer count_old count_new = (state : State) (counts : Counts) (number : ℕ) (page : PageState) → Stands state counts old
    → slice_get state.pages number ≡ Some page → was.drawn ≡ page.drawn → Reads old.table state.library (results_by old.inside.results) page.file was
    → NeedsFile state page file old → was.decisions ≤ ticked (run old.table state.library page.file).left.told.decisions 0
    → Goes state counts page old new was is answer count_old count_new

-- ---- gifts

-- the outline of this file is known to the core, and the decoder was given it
pub record GaveOutline (files : List FilePart) (file : ℕ) (was is : Decoding) : Type 0 where
  pub part : FilePart
  pub is_part : slice_get files file ≡ Some part
  pub read : part.reader ≡ None
  pub outline : Outline
  pub is_known : part.outline ≡ Some outline
  pub fed : (given : Given) (known : Known) → KnowsOutline file outline given.known known → Fed given was → Fed (record given { known = known }) is
  pub works : is.failed ≡ false

-- it isn't known, and may become known
pub record LacksOutline (files : List FilePart) (file : ℕ) (was is : Decoding) : Type 0 where
  pub part : FilePart
  pub is_part : slice_get files file ≡ Some part
  pub unknown : is_some part.reader ≡ true
  pub same : is ≡ was

-- the decoder was given an outline, or the page needs the file, or there was no memory
abbrev pub OutlineBy : Option CoreStep → List FilePart → ℕ → Decoding → Decoding → Type 0
OutlineBy None files file was is = GaveOutline files file was is
OutlineBy (Some (step.NeedFile needed)) files file was is = (needed ≡ file) × LacksOutline files file was is
OutlineBy (Some step.OutOfMemory) files file was is = ⊤
OutlineBy (Some other) files file was is = ⊥

-- where there was no memory, a step answers so
abbrev pub stop_at : {A E : Type 0} → Answered A E → Option CoreStep
stop_at (Ok done) = None
stop_at (Err error) = Some step.OutOfMemory

-- what a file gives, where that was found
abbrev pub IsFound : Answered FileResult AllocError → ℕ → CoreSeen → Type 0
IsFound (Ok gift) file core = (result : Result) × (result_in gift ≡ Some result) × (results_by core.inside.results file ≡ Some result)
IsFound (Err error) file core = ⊤

-- where there was no memory for the decoding of a file, or it wasn't decoded, a step answers so
abbrev pub step_of : Option FileResult → CoreStep
step_of None = step.OutOfMemory
step_of (Some gift.NoMemory) = step.OutOfMemory
step_of (Some other) = step.NeedBytes

pub record Finds (state : State) (before : Counts) (page : PageState) (file : ℕ) (old new : CoreSeen) (found : Answered FileResult AllocError)
    (count_old count_new : ℕ) : Type 0 where
  pub ticks : ℕ
  pub decodes : Decodes state before page (answer_or (stop_at found)) old new ticks
  pub meter : TicksExactly ticks count_old count_new
  pub is_found : IsFound found file new

pub record DecodesFile (state : State) (before : Counts) (page : PageState) (file : ℕ) (old new : CoreSeen) (count_old count_new : ℕ) : Type 0 where
  pub ticks : ℕ
  pub decodes : Decodes state before page (step_of (given_at (slice_get new.inside.results file))) old new ticks
  pub meter : TicksExactly ticks count_old count_new

-- what a file gives is found, where a page needs it
unfoldable pub FindsFor : ℕ → CoreSeen → CoreSeen → Answered FileResult AllocError → ℕ → ℕ → Type 0
FindsFor file old new found count_old count_new = (state : State) (counts : Counts) (number : ℕ) (page : PageState) → Stands state counts old
    → slice_get state.pages number ≡ Some page → NeedsFile state page file old → Finds state counts page file old new found count_old count_new

unfoldable pub DecodesFor : ℕ → CoreSeen → CoreSeen → ℕ → ℕ → Type 0
DecodesFor file old new count_old count_new = (state : State) (counts : Counts) (number : ℕ) (page : PageState) → Stands state counts old
    → slice_get state.pages number ≡ Some page → NeedsFile state page file old → DecodesFile state counts page file old new count_old count_new

-- ---- decoding

-- how a file ends whose outline is known. Where its end wasn't told, the FORM has ended
abbrev pub end_mark : Option FileEnd → Mark
end_mark None = Whole
end_mark (Some end) = mark_of end

-- the decoding of a file by the bytes that are kept of it
abbrev pub done_by : CoreSeen → ℕ → FilePart → Known → FileDone
done_by core file part known = decode (included core.table core.names file known part.bytes (end_mark part.end))

-- what decoding it came to. Where its outline isn't known, there was no memory
pub record DecodesBy (core : CoreSeen) (file : ℕ) (part : FilePart) (gave : FileResult) (decisions : ℕ) : Type 0 where
  pub result : gave ≢ gift.NoMemory → (known : Known) → KnowsResults core.inside.results known → result_in gave ≡ Some (done_by core file part known).result
  pub exactly : gave ≢ gift.NoMemory → (known : Known) → KnowsResults core.inside.results known
      → TicksExactly (done_by core file part known).decisions 0 decisions
  pub at_most : (known : Known) → KnowsResults core.inside.results known → decisions ≤ ticked (done_by core file part known).decisions 0
  pub unknown : part.outline ≡ None → (gave ≡ gift.NoMemory) × (decisions ≡ 0)

-- ---- the page's place

-- what a page keeps behind this answer of a step, by its decoder
abbrev pub part_with : CoreStep → Decoding → PagePart → PagePart
part_with (step.Drew notice) decoder part = record part { decoder = Some decoder; last = Some notice; decisions = decoder.decisions }
part_with step.NeedBytes decoder part = record part { decoder = Some decoder; decisions = decoder.decisions }
part_with (step.NeedFile file) decoder part = record part { decoder = Some decoder; decisions = decoder.decisions }
part_with step.Finished decoder part = record part { end = core_end.Finished; layers = decoder.layers; decisions = decoder.decisions }
part_with (step.Refused fault) decoder part = record part { end = core_end.Refused fault; layers = decoder.layers; decisions = decoder.decisions }
part_with step.OutOfMemory decoder part = record part { decisions = decoder.decisions }

-- the decoder is out of its place
abbrev pub without_decoder : PagePart → PagePart
without_decoder part = record part { decoder = None; end = core_end.OutOfMemory }

-- ---- the page's place in the core

-- the core keeps this of the page at this place
abbrev pub with_part : ℕ → PagePart → CoreSeen → CoreSeen
with_part number part core = core_of core.table core.names (record core.inside { pages = slice_set core.inside.pages number part })

-- the page's decoder was taken out of its place, where it was there
pub record SetsAside (number : ℕ) (old new : CoreSeen) (decoder : Option Decoding) : Type 0 where
  pub seen : old.pages ≡ map seen_of old.inside.pages
  pub part : PagePart
  pub is_part : slice_get old.inside.pages number ≡ Some part
  pub had : part.decoder ≡ decoder
  pub core : MatchOption decoder (new ≡ old) (λ it. new ≡ with_part number (without_decoder part) old)
  pub open_ : (it : Decoding) → decoder ≡ Some it → part.closed ≡ false → it.mark ≡ Open

-- the place of the page's decoder is empty, and takes this one
pub record HasRoom (number : ℕ) (core : CoreSeen) (decoder : Decoding) : Type 0 where
  pub part : PagePart
  pub is_part : slice_get core.inside.pages number ≡ Some part
  pub out : part.decoder ≡ None
  pub open_ : part.closed ≡ false → decoder.mark ≡ Open

-- the page was settled by its decoder, with this answer
abbrev pub PutsBack : ℕ → CoreSeen → CoreSeen → Decoding → CoreStep → Type 0
PutsBack number old new decoder result = (part : PagePart) → slice_get old.inside.pages number ≡ Some part
    → new ≡ with_part number (part_with result decoder part) old
