-- What a core keeps of a file, and how that stands to the library's file.
use Rattle.std.specs.Prelude.{ℕ, ◌≡◌, ⊤, Bool, true, false, List, Option, Some, None, Result, Ok, Err}
use Rattle.std.specs.List.{list_all}
use Rattle.djvu_base.specs.Library.{File}
use Rattle.djvu_base.specs.declared.ends.FileEnd.{FileEnd}
use Rattle.include_graph.specs.declared.outline.Outline.{Outline}
use Rattle.include_graph.specs.declared.outline.OutlineItem.{OutlineItem}
use Rattle.include_graph.specs.declared.outline.OutlineItem.TheVariants as item
use Rattle.include_graph.specs.declared.reader.OutlineStep.TheVariants as outline_step
use Rattle.include_graph.specs.Fed.{Outlining, Fed}
use Rattle.include_graph.specs.Outlines.{outline_of}
use Rattle.jb2_records.specs.declared.results.FileResult.{FileResult}
use Rattle.page_decoder.specs.FileReading.{mark_by}
use Rattle.page_decoder.specs.Libraries.{FileGoesOn}
use Rattle.page_decoder.specs.Needs.{HasNoFault}
use Rattle.replay_core.specs.Machine.{empty_file}

abbrev pub both : {A E : Type 0} → Result A E → Result A E → Result A E
both (Ok done) other = other
both (Err error) other = Err error

-- the reader of the outline, until that is known; the outline; the bytes, as long as they can be wanted; what is known of the end; and the
-- place of the page that the file is among the pages
pub record FilePart : Type 0 where
  pub reader : Option Outlining
  pub outline : Option Outline
  pub bytes : List ℕ
  pub end : Option FileEnd
  pub page : Option ℕ

-- while there is a reader, no outline is known
pub record IsFilePart (part : FilePart) : Type 0 where
  pub unknown : (reader : Outlining) → part.reader ≡ Some reader → part.outline ≡ None

abbrev pub is_include : OutlineItem → Bool
is_include (item.Include name offset) = true
is_include (item.Broken kind offset) = false

-- whether an outline has no fault
abbrev pub is_clean : List OutlineItem → Bool
is_clean items = list_all is_include items

-- the outline became known by these bytes, which are kept, and the file went on from there
pub record IsWanted (file : File) (outline : Outline) (bytes : List ℕ) : Type 0 where
  pub seen : File
  pub known : outline_of seen.mark seen.bytes ≡ Some outline
  pub goes_on : FileGoesOn seen file
  pub bytes_are : bytes ≡ seen.bytes

-- the bytes of a file whose outline has no fault are kept until it is decoded
pub record IsKnown (file : File) (result : Option FileResult) (outline : Outline) (bytes : List ℕ) : Type 0 where
  pub known : outline_of file.mark file.bytes ≡ Some outline
  pub wanted : result ≡ None → HasNoFault outline.items → IsWanted file outline bytes

-- the outline isn't known, and all bytes are kept
pub record IsUnknown (file : File) (reader : Outlining) (bytes : List ℕ) : Type 0 where
  pub fed : Fed file.mark file.bytes reader
  pub needs : reader.answered ≡ outline_step.NeedBytes
  pub bytes_are : bytes ≡ file.bytes

-- by the reader and the outline. Where there is neither, there was no memory
abbrev pub FileBy : Option Outlining → Option Outline → File → Option FileResult → List ℕ → Type 0
FileBy (Some reader) outline file result bytes = IsUnknown file reader bytes
FileBy None (Some outline) file result bytes = IsKnown file result outline bytes
FileBy None None file result bytes = ⊤

-- this is kept of a file that was decoded with this result, or that wasn't decoded
pub record FileStands (file : File) (result : Option FileResult) (part : FilePart) : Type 0 where
  pub mark : mark_by part.end ≡ file.mark
  pub by : FileBy part.reader part.outline file result part.bytes

-- no byte of the file came, whatever its name
pub record IsEmpty (part : FilePart) : Type 0 where
  pub stands : (name : List ℕ) (result : Option FileResult) → FileStands (empty_file name) result part
  pub end : part.end ≡ None
