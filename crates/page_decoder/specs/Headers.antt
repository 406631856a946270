-- What is wrong with a file by its FORM's kind, and with a chunk by its header.
use Rattle.std.specs.Prelude.{ℕ, zero, suc, List, Option, Some, None, is_some, nat_lt, if◌then◌else◌}
use Rattle.djvu_base.specs.declared.faults.FaultKind.{FaultKind}
use Rattle.djvu_base.specs.declared.faults.FaultKind.TheVariants as fault
use Rattle.iff_chunks.specs.Chunks.{Chunk}
use Rattle.include_graph.specs.Included.{chunk_fault, kind_fault as included_kind_fault}
use Rattle.layer_compose.specs.declared.layers.Layers.{Layers}
use Rattle.djvu_base.specs.Picture.{Picture}
use Rattle.page_decoder.specs.Kinds.{ChunkKind, kind_of}
use Rattle.page_decoder.specs.Kinds as kind
use Rattle.page_decoder.specs.Given.{Role, Page, Included}
use Rattle.page_decoder.specs.PageRead.{Decoded, Left}
use Rattle.page_decoder.specs.Reading.{mask_in, kind_fault as page_kind_fault}
-- the header of a chunk: its identifier, where the chunk begins, and how many bytes of data it has
pub use Rattle.page_decoder.specs.declared.headers.Head.{Head}

abbrev pub head_of : Chunk → Head
head_of chunk = record { id = chunk.id; offset = chunk.offset; size = chunk.size }

-- why a FORM of this kind is no file of this role
abbrev pub form_fault : Role → List ℕ → Option FaultKind
form_fault Page kind = page_kind_fault kind
form_fault Included kind = included_kind_fault kind

-- a page begins with an INFO, of at least five bytes
abbrev pub first_fault : ChunkKind → ℕ → Option FaultKind
first_fault kind.Info size = if nat_lt size 5 then Some fault.BadInfo else None
first_fault other size = Some fault.NoInfo

-- there is one already
abbrev pub second : {A : Type 0} → FaultKind → Option A → Option FaultKind
second kind None = None
second kind (Some earlier) = Some kind

abbrev pub front_in : Option Layers → Option Picture
front_in None = None
front_in (Some layers) = layers.front

-- a later chunk of a page, behind those that left this
abbrev pub later_fault : Decoded → ChunkKind → Option FaultKind
later_fault decoded kind.Info = Some fault.SecondInfo
later_fault decoded kind.Include = None
later_fault decoded kind.Dictionary = second fault.SecondDictionary decoded.own
later_fault decoded kind.Mask = second fault.SecondMask (mask_in decoded.layers)
later_fault decoded kind.Front = second fault.SecondFront (front_in decoded.layers)
later_fault decoded kind.Back = None
later_fault decoded kind.Refused = Some fault.Unsupported
later_fault decoded kind.Passed = None

-- a chunk of a page, behind so many others
abbrev pub page_fault : ℕ → Decoded → Head → Option FaultKind
page_fault zero decoded head = first_fault (kind_of head.id) head.size
page_fault (suc chunks) decoded head = later_fault decoded (kind_of head.id)

-- a chunk of a file in this role, behind what was read so far
abbrev pub header_fault : Role → Left → Head → Option FaultKind
header_fault Page left head = page_fault left.chunks left.decoded head
header_fault Included left head = chunk_fault (is_some left.decoded.own) head.id
