-- What contracts see of a page's decoder, and how it stands to what it was fed and given.
use Rattle.std.specs.Prelude.{ℕ, ◌≡◌, ◌≢◌, ◌≤◌, ◌<◌, ◌^◌, ⊤, Bool, true, false, List, ◌++◌, length, Option, Some, None, Result, Ok, Err}
use Rattle.std.specs.Arc.{arc_value}
use Rattle.djvu_base.specs.Name.{IsAscending}
use Rattle.djvu_base.specs.Library.{Mark}
use Rattle.djvu_base.specs.declared.ends.FileEnd.{FileEnd}
use Rattle.djvu_base.specs.Meter.{TicksExactly, ticked}
use Rattle.zp_table.specs.Rows.{IsTable}
use Rattle.layer_compose.specs.declared.layers.Layers.{Layers}
use Rattle.page_decoder.specs.declared.file_reader.FileReader.{FileReader}
use Rattle.page_decoder.specs.declared.decoder.PageStep.{PageStep}
use Rattle.page_decoder.specs.declared.decoder.PageStep.TheVariants as step
use Rattle.page_decoder.specs.declared.decoder.Standing.{Standing}
use Rattle.page_decoder.specs.declared.decoder.Standing.TheVariants as standing
use Rattle.page_decoder.specs.Given.{Page, Home, Known, Given, Within}
use Rattle.page_decoder.specs.PageRead.{Ending, Finished, Refused, NeedBytes, NeedOutline, NeedFile}
use Rattle.page_decoder.specs.Read.{read}
use Rattle.page_decoder.specs.Resolving.{Gifts, home_of, known_by, not_given}
use Rattle.page_decoder.specs.Decoder.{Ends, next_entry, Shows}
use Rattle.page_decoder.specs.FileReading.{Stands, mark_by, decisions_in}

-- what only the decoder itself reads: the folder's names, the reader of the page, what was given of other files, the bytes that weren't
-- used yet, what is known of their end, and where the page stands
pub record Kept : Type 0 where
  pub names : List (List ℕ)
  pub reader : FileReader
  pub others : Gifts
  pub unread : List ℕ
  pub end : Option FileEnd
  pub standing : Standing

-- what contracts see of a page's decoder
pub record Decoding : Type 0 where
  -- the page, by what stays the same
  pub home : Home
  -- what is known of the file's end
  pub mark : Mark
  -- so many notices were drawn, and so many decisions read
  pub drawn : ℕ
  pub decisions : ℕ
  -- the layers of the last drawing
  pub layers : Option Layers
  -- the end at which the page stands, until more comes that may lift it. What it needs may be given then
  pub stands : Option Ending
  -- so many outlines and results of other files weren't given yet
  pub to_ask : ℕ
  -- there was no memory: nothing else is answered any more
  pub failed : Bool
  pub kept : Kept

abbrev pub stands_by : Standing → Option Ending
stands_by standing.Going = None
stands_by standing.NeedBytes = Some NeedBytes
stands_by (standing.NeedOutline file) = Some (NeedOutline file)
stands_by (standing.NeedFile file) = Some (NeedFile file)
stands_by standing.Finished = Some Finished
stands_by (standing.Refused fault) = Some (Refused fault)
stands_by standing.Failed = None

abbrev pub is_failed : Standing → Bool
is_failed standing.Going = false
is_failed standing.NeedBytes = false
is_failed (standing.NeedOutline file) = false
is_failed (standing.NeedFile file) = false
is_failed standing.Finished = false
is_failed (standing.Refused fault) = false
is_failed standing.Failed = true

abbrev pub standing_without : Standing → Standing
standing_without standing.Going = standing.Going
standing_without standing.NeedBytes = standing.Going
standing_without (standing.NeedOutline file) = standing.NeedOutline file
standing_without (standing.NeedFile file) = standing.NeedFile file
standing_without standing.Finished = standing.Finished
standing_without (standing.Refused fault) = standing.Refused fault
standing_without standing.Failed = standing.Failed

abbrev pub standing_after : {A E : Type 0} → Result A E → Standing
standing_after (Ok done) = standing.Going
standing_after (Err error) = standing.Failed

abbrev pub standing_at : PageStep → Standing
standing_at (step.Drew notice) = standing.Going
standing_at step.NeedBytes = standing.NeedBytes
standing_at (step.NeedOutline file) = standing.NeedOutline file
standing_at (step.NeedFile file) = standing.NeedFile file
standing_at step.Finished = standing.Finished
standing_at (step.Refused fault) = standing.Refused fault
standing_at step.OutOfMemory = standing.Failed

abbrev pub decoding_of : Kept → Decoding
decoding_of kept = record {
  home = home_of kept.reader.role (arc_value kept.reader.table) kept.names kept.reader.file;
  mark = mark_by kept.end;
  drawn = kept.reader.drawn;
  decisions = decisions_in kept.reader;
  layers = kept.reader.kept.layers;
  stands = stands_by kept.standing;
  to_ask = not_given kept.others;
  failed = is_failed kept.standing;
  kept = kept;
}

-- ---- what was fed and given

-- the same is known of each file
pub record SameKnown (a b : Known) : Type 0 where
  pub outlines : (file : ℕ) → a.outlines file ≡ b.outlines file
  pub results : (file : ℕ) → a.results file ≡ b.results file

abbrev pub with_known : Known → Given → Given
with_known known given = record given { known = known }

-- the reader was fed all bytes but those that weren't used yet, and goes on over these
pub record GoesOn (given : Given) (kept : Kept) : Type 0 where
  pub same : SameKnown given.known (known_by kept.others)
  pub before : Given
  pub within : Within before (with_known (known_by kept.others) given)
  pub bytes_are : given.bytes ≡ before.bytes ++ kept.unread
  pub stands : Stands before kept.reader

-- every drawing was told, and the reading ends so
pub record StandsAt (end : Ending) (given : Given) (kept : Kept) : Type 0 where
  pub told : next_entry (read given) kept.reader.drawn ≡ Ends end
  pub decisions : TicksExactly (read given).left.told.decisions 0 (decisions_in kept.reader)

abbrev pub FedBy : Standing → Given → Kept → Type 0
FedBy standing.Going given kept = GoesOn given kept
FedBy standing.NeedBytes given kept = GoesOn given kept × StandsAt NeedBytes given kept
FedBy (standing.NeedOutline file) given kept = GoesOn given kept × StandsAt (NeedOutline file) given kept
FedBy (standing.NeedFile file) given kept = GoesOn given kept × StandsAt (NeedFile file) given kept
FedBy standing.Finished given kept = StandsAt Finished given kept
FedBy (standing.Refused fault) given kept = StandsAt (Refused fault) given kept
FedBy standing.Failed given kept = ⊤

pub record IsFed (given : Given) (it : Decoding) : Type 0 where
  pub home_is : given.home ≡ it.home
  pub mark_is : given.mark ≡ it.mark
  pub is_table : IsTable it.home.table
  pub by : FedBy it.kept.standing given it.kept
  pub at_most : it.decisions ≤ ticked (read given).left.told.decisions 0
  pub shows : Shows it.layers it.drawn (read given).left.told

-- the decoder was fed these bytes and told this of their end, and these outlines and results were given
unfoldable pub Fed : Given → Decoding → Type 0
Fed given it = IsFed given it

-- what a decoder keeps to: it is one of a page among names in order, and was fed and given something
pub record IsDecoder (kept : Kept) : Type 0 where
  pub is_page : (decoding_of kept).home.role ≡ Page
  pub ascending : IsAscending kept.names
  pub few : length kept.names < 2 ^ 32
  pub places : kept.others.count ≡ length kept.names
  pub given : Given
  pub fed : Fed given (decoding_of kept)

-- all but where the page stands, and what is known of its file's end
pub record StaysSo (before after : Decoding) : Type 0 where
  pub home_is : after.home ≡ before.home
  pub drawn_is : after.drawn ≡ before.drawn
  pub decisions_are : after.decisions ≡ before.decisions
  pub layers_are : after.layers ≡ before.layers
