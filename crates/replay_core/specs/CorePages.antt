-- What a core keeps of a page, and how that stands to the page in a state of the machine.
use Rattle.std.specs.Prelude.{ℕ, ◌≡◌, ◌≤◌, ⊤, Bool, true, false, List, length, Option, Some, None, slice_get, ◌⊎◌}
use Rattle.djvu_base.specs.Announced.{Announced}
use Rattle.djvu_base.specs.Library.{Open, Library}
use Rattle.djvu_base.specs.Meter.{ticked}
use Rattle.zp_table.specs.declared.rows.Row.{Row}
use Rattle.layer_compose.specs.declared.layers.Layers.{Layers}
use Rattle.page_decoder.specs.Found.{CanDrawLast}
use Rattle.page_decoder.specs.Given.{Page, Given, KnowsMore}
use Rattle.page_decoder.specs.PageFed.{Decoding, Fed}
use Rattle.page_decoder.specs.PageRead.{Ending, Finished, Refused}
use Rattle.page_decoder.specs.Results.{Result}
use Rattle.page_decoder.specs.Libraries.{outlines_in, bytes_in, mark_in, names_in, run, is_reached}
use Rattle.replay_core.specs.declared.pages.CoreEnd.{CoreEnd}
use Rattle.replay_core.specs.declared.pages.CoreEnd.TheVariants as core_end
use Rattle.replay_core.specs.Counts.{PageCount}
use Rattle.replay_core.specs.Machine.{PageState, empty_file, unread_page, page_notices, last_notice, layers_drawn, HasEnded}

-- the page's file; the decoder, until the page ends; the last notice drawn; the decisions of its own chunks so far; how it ended; its layers
-- from its end on, until they are taken; whether they were taken; and whether the file has ended
pub record PagePart : Type 0 where
  pub file : ℕ
  pub decoder : Option Decoding
  pub last : Option Announced
  pub decisions : ℕ
  pub end : CoreEnd
  pub layers : Option Layers
  pub taken : Bool
  pub closed : Bool

abbrev pub end_by : Option Decoding → CoreEnd → Option CoreEnd
end_by (Some decoder) end = None
end_by None end = Some end

-- the file of a page; how it ended, if it did; and whether its layers were taken
pub record PageSeen : Type 0 where
  pub file : ℕ
  pub end : Option CoreEnd
  pub taken : Bool

abbrev pub seen_of : PagePart → PageSeen
seen_of part = record { file = part.file; end = end_by part.decoder part.end; taken = part.taken }

abbrev pub untouched : ℕ → PageSeen
untouched file = record { file = file; end = None; taken = false }

-- a page is as it was, or it hadn't ended, and there was no memory for it
abbrev pub Fails : PageSeen → PageSeen → Type 0
Fails before after = (after ≡ before) ⊎ ((before.end ≡ None) × (after ≡ record before { end = Some core_end.OutOfMemory }))

abbrev pub uncounted : ℕ → PageCount
uncounted file = record { file = file; decisions = 0 }

-- what a page keeps to
pub record IsPagePart (part : PagePart) : Type 0 where
  -- while its file is open, its decoder takes bytes
  pub open_ : (decoder : Decoding) → part.decoder ≡ Some decoder → part.closed ≡ false → decoder.mark ≡ Open
  -- its layers can be drawn
  pub drawable : CanDrawLast part.layers

-- the decoder was fed what the library has of the page's file, and given nothing that isn't known there
pub record Lives (table : List Row) (library : Library) (results : ℕ → Option Result) (page : PageState) (count : PageCount) (decoder : Decoding) :
    Type 0 where
  pub given : Given
  pub fed : Fed given decoder
  pub home : given.home ≡ record { role = Page; table = table; names = names_in library; file = page.file }
  pub known : KnowsMore given.known (record { outlines = outlines_in library; results = results })
  pub bytes : given.bytes ≡ bytes_in (slice_get library page.file)
  pub mark : given.mark ≡ mark_in (slice_get library page.file)
  pub drawn : decoder.drawn ≡ page.drawn
  pub decisions : decoder.decisions ≡ ticked count.decisions 0
  pub works : decoder.failed ≡ false

-- the page is over, with all that it reaches decoded, and its layers are there until they are taken
pub record IsOverSo (table : List Row) (library : Library) (results : ℕ → Option Result) (page : PageState) (count : PageCount) (part : PagePart)
    (end : Ending) : Type 0 where
  pub ended : HasEnded table library page end
  pub decisions : count.decisions ≡ (run table library page.file).left.told.decisions
  pub reached : (file : ℕ) → is_reached table library file page.file ≡ true → (result : Result) × (results file ≡ Some result)
  pub layers : part.taken ≡ false → part.layers ≡ layers_drawn table library page

-- where there was no memory nothing more is known
abbrev pub EndedBy : CoreEnd → List Row → Library → (ℕ → Option Result) → PageState → PageCount → PagePart → Type 0
EndedBy core_end.Finished table library results page count part = IsOverSo table library results page count part Finished
EndedBy (core_end.Refused fault) table library results page count part = IsOverSo table library results page count part (Refused fault)
EndedBy core_end.OutOfMemory table library results page count part = ⊤

abbrev pub PageBy : Option Decoding → List Row → Library → (ℕ → Option Result) → PageState → PageCount → PagePart → Type 0
PageBy (Some decoder) table library results page count part = Lives table library results page count decoder
PageBy None table library results page count part = EndedBy part.end table library results page count part

-- this is kept of a page of which so many notices were drawn, and so many decisions read
pub record PageStands (table : List Row) (library : Library) (results : ℕ → Option Result) (page : PageState) (count : PageCount) (part : PagePart) :
    Type 0 where
  pub file : part.file ≡ page.file
  pub counted : count.file ≡ page.file
  pub sound : page.drawn ≤ length (page_notices table library page.file)
  pub last : part.last ≡ last_notice table library page
  pub decisions : part.decisions ≡ ticked count.decisions 0
  pub most : count.decisions ≤ (run table library page.file).left.told.decisions
  pub by : PageBy part.decoder table library results page count part

-- no byte of the page's file came
pub record IsBegun (table : List Row) (names : List (List ℕ)) (file : ℕ) (part : PagePart) : Type 0 where
  pub stands : (name : List ℕ) (library : Library) (results : ℕ → Option Result) → names_in library ≡ names
      → slice_get library file ≡ Some (empty_file name) → PageStands table library results (unread_page file) (uncounted file) part
  pub seen : seen_of part ≡ untouched file
  pub open_ : part.closed ≡ false
